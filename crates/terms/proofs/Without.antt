-- A set without one of its variables, as a difference of masks.
use Prim.Native.Nat.{ℕ, ◌+◌, ◌-◌, ◌^◌, ◌≤◌}
use mathlib.Core.Path.{◌≡◌, sym, ◌∙◌}
use mathlib.Core.Logic.{◌⊎◌, inl, inr}
use native.Mathlib.Decide.{ℕ_discrete}
use native.Mathlib.Omega.{arith}
use lib.Bits.{bit_and, bit_or, or_disjoint}
use Rattle.terms.specs.Mask.{Has, Marks}
use Rattle.terms.proofs.Masks.{has_decided, has_none, has_or, has_and, has_one, has_below, width, width_below, mask_of, mask_of_marks, same_marks}

-- the set without x
module _ (s x : ℕ) where
  Left : ℕ → Type 0
  Left z = Has s z × (z ≡ x → ⊥)

  left_decided : (z : ℕ) → Dec (Left z)
  unfolding Left
  left_decided z = go (has_decided s z) (ℕ_discrete z x)
    where
      go : Dec (Has s z) → Dec (z ≡ x) → Dec (Left z)
      go (no n) d = no (λ h. n h.0)
      go (yes h) (yes e) = no (λ l. l.1 e)
      go (yes h) (no n) = yes (h, n)

  rest : ℕ
  rest = mask_of Left left_decided (width s)

  rest_marks : Marks Left rest
  unfolding rest Left
  rest_marks = mask_of_marks Left left_decided (width s) (λ z h. has_below (width s) s z (width_below s) h.0)

  rest_apart : bit_and rest (2 ^ x) ≡ 0
  unfolding Left
  rest_apart = same_marks (bit_and rest (2 ^ x)) 0
      (λ z. (λ h. let p = (has_and rest (2 ^ x) z).0 h in absurd (((rest_marks z).0 p.0).1 ((has_one x z).0 p.1)), λ h. absurd (has_none z h)))

  rest_with : Has s x → bit_or rest (2 ^ x) ≡ s
  unfolding Left
  rest_with h = same_marks (bit_or rest (2 ^ x)) s (λ z. (λ b. there z ((has_or rest (2 ^ x) z).0 b), λ b. (has_or rest (2 ^ x) z).1 (back z b (ℕ_discrete z x))))
    where
      there : (z : ℕ) → Has rest z ⊎ Has (2 ^ x) z → Has s z
      there z (inl b) = ((rest_marks z).0 b).0
      there z (inr b) = rw ((has_one x z).0 b) h

      back : (z : ℕ) → Has s z → Dec (z ≡ x) → Has rest z ⊎ Has (2 ^ x) z
      back z b (yes e) = inr ((has_one x z).1 e)
      back z b (no n) = inl ((rest_marks z).1 (b, n))

  whole : Has s x → rest + 2 ^ x ≡ s
  whole h = sym (or_disjoint rest (2 ^ x) rest_apart) ∙ rest_with h

  -- a bit that is set can be taken away
  pub bit_within : Has s x → 2 ^ x ≤ s
  bit_within h = omega (arith, whole h)

  -- taking the bit of x away leaves the other variables
  pub without_bit : Has s x → Marks (λ z. Has s z × (z ≡ x → ⊥)) (s - 2 ^ x)
  unfolding Left
  without_bit h = let e : s - 2 ^ x ≡ rest = omega (arith, whole h) in rw e rest_marks
