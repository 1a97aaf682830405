-- What is found in an input is one thing: a fault or something sound, and one of either.
use Prim.Native.Nat.{ℕ}
use native.Mathlib.Omega.{arith}
use mathlib.Core.Path.{◌≡◌}
use Rattle.program.specs.Faults.{Found, fault, sound}

pub fault_or_sound : {X : Type 0} {number place : ℕ} {p : X} (found : Found X) → found ≡ fault number place → found ≡ sound p → ⊥
fault_or_sound found d e = let z : ◌≡◌ {A = ℕ} 0 1 = cc in omega arith

pub sound_same : {X : Type 0} {p q : X} (found : Found X) → found ≡ sound p → found ≡ sound q → p ≡ q
sound_same found d e = cc
