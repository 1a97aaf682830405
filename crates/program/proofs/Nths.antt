-- What stands at a place of a list: places are below the length, something stands at each, and what stands where two lists are put together.
use Prim.Native.Nat.{ℕ, zero, suc, ◌+◌, ◌<◌}
use native.Mathlib.Omega.{arith}
use mathlib.Core.Path.{◌≡◌, refl, ap}
use mathlib.Core.Logic.{◌⊎◌, inl, inr}
use mathlib.Core.List.{List, [], ◌∷◌, ◌++◌}
use lib.ListN.{length}
use Rattle.program.specs.Program.{Nth, here, there}

-- places are below the length, and something stands at each
pub nth_below : {A : Type 0} {l : List A} {n : ℕ} {a : A} → Nth l n a → n < length l
nth_below here = omega arith
nth_below (there h) = let l = nth_below h in omega arith

pub below_nth : {A : Type 0} (l : List A) (n : ℕ) → n < length l → (a : A) × Nth l n a
below_nth [] n h = absurd (omega arith)
below_nth (a ∷ l) zero h = (a, here)
below_nth (a ∷ l) (suc n) h = let (b, m) = below_nth l n (omega arith) in (b, there m)

-- what stands in one of two lists stands in both together, at its place of the one or behind the other
pub nth_left : {A : Type 0} {l : List A} {n : ℕ} {a : A} (m : List A) → Nth l n a → Nth (l ++ m) n a
nth_left m here = here
nth_left m (there h) = there (nth_left m h)

pub nth_right : {A : Type 0} (l : List A) {m : List A} {n : ℕ} {a : A} → Nth m n a → Nth (l ++ m) (length l + n) a
nth_right [] {n = n} h = let e : 0 + n ≡ n = omega arith in rw e h
nth_right (b ∷ l) {n = n} h = let e : length (b ∷ l) + n ≡ suc (length l + n) = omega arith in rw e (there (nth_right l h))

-- what stands in two lists one after the other stands in the first or in the second
pub nth_append : {A : Type 0} (l m : List A) {n : ℕ} {a : A} → Nth (l ++ m) n a → Nth l n a ⊎ ((y : ℕ) × (n ≡ length l + y) × Nth m y a)
nth_append [] m {n} h = inr (n, omega arith, h)
nth_append (b ∷ l) m here = inl here
nth_append {A} (b ∷ l) m {a = a} (there {n = k} h) = by (nth_append l m h)
  where
    by : Nth l k a ⊎ ((y : ℕ) × (k ≡ length l + y) × Nth m y a) → Nth (b ∷ l) (suc k) a ⊎ ((y : ℕ) × (suc k ≡ suc (length l) + y) × Nth m y a)
    by (inl q) = inl (there q)
    by (inr (y, e, q)) = inr (y, omega arith, q)

-- one more behind a list: it stands at the length, and what stands in both is it or stands in the list
pub last_nth : {A : Type 0} (l : List A) (a : A) → Nth (l ++ (a ∷ [])) (length l) a
last_nth [] a = here
last_nth (b ∷ l) a = there (last_nth l a)

pub nth_last : {A : Type 0} (l : List A) {b a : A} {n : ℕ} → Nth (l ++ (b ∷ [])) n a → Nth l n a ⊎ ((n ≡ length l) × (b ≡ a))
nth_last [] here = inr (refl, refl)
nth_last [] (there h) = let l = nth_below h in absurd (omega arith)
nth_last (c ∷ l) here = inl here
nth_last (c ∷ l) {b} {a} (there {n = k} h) = by (nth_last l h)
  where
    by : Nth l k a ⊎ ((k ≡ length l) × (b ≡ a)) → Nth (c ∷ l) (suc k) a ⊎ ((suc k ≡ length (c ∷ l)) × (b ≡ a))
    by (inl q) = inl (there q)
    by (inr (e, q)) = inr (ap suc e, q)
