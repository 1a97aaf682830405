-- What a part of a text that was read says of the parts that it is made of.
use Prim.Native.Nat.{ℕ}
use native.Mathlib.Omega.{arith}
use mathlib.Core.Path.{◌≡◌, refl}
use mathlib.Core.Bool.{Bool, true, false, cond}
use Rattle.cells.specs.TextSoFar.{Read, wrong, right, next}

-- what two parts come to, come to one after the other
pub next_right : {A B : Type 0} (o : Read A) (f : A → Read B) (b : B) → next o f ≡ right b → (a : A) × (o ≡ right a) × (f a ≡ right b)
next_right (wrong number place) f b e = let z : ◌≡◌ {A = ℕ} 0 1 = cc in absurd (omega arith)
next_right (right a) f b e = (a, refl, e)

-- a choice that is right is the first, and its test holds
pub first_right : {A : Type 0} (b : Bool) (o : Read A) (number place : ℕ) (a : A) → cond b o (wrong number place) ≡ right a → (b ≡ true) × (o ≡ right a)
first_right true o number place a e = (refl, e)
first_right false o number place a e = let z : ◌≡◌ {A = ℕ} 0 1 = cc in absurd (omega arith)

-- a choice that is right, where the first is a fault, is the second
pub second_right : {A : Type 0} (b : Bool) (o : Read A) (number place : ℕ) (a : A) → cond b (wrong number place) o ≡ right a → (b ≡ false) × (o ≡ right a)
second_right true o number place a e = let z : ◌≡◌ {A = ℕ} 0 1 = cc in absurd (omega arith)
second_right false o number place a e = (refl, e)
