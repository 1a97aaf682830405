-- A set that has x loses it and gains another set: as a difference and a union of masks, set by set.
use Prim.Native.Nat.{ℕ, ◌+◌, ◌-◌, ◌^◌, ◌≤◌, ◌<◌}
use mathlib.Core.Path.{◌≡◌, ◌∙◌}
use mathlib.Core.Logic.{◌⊎◌, inl, inr}
use mathlib.Core.List.{List}
use native.Mathlib.Decide.{ℕ_discrete}
use native.Mathlib.Omega.{arith}
use lib.Bits.{bit_or}
use lib.ListN.{length, get_or, set, length-set}
use lib.Seq.{get_or-set_same, get_or-set_other}
use Rattle.terms.specs.Mask.{Has}
use Rattle.terms.specs.Unifying.{Replaced}
use Rattle.terms.proofs.Masks.{has_or}
use Rattle.terms.proofs.Without.{without_bit}

-- a set that has x
pub replaced_with : (x gained s : ℕ) → Has s x → Replaced x gained s (bit_or (s - 2 ^ x) gained)
replaced_with x gained s h z = (
  (λ b. there ((has_or (s - 2 ^ x) gained z).0 b)),
  (λ b. (has_or (s - 2 ^ x) gained z).1 (back b)),
)
  where
    there : Has (s - 2 ^ x) z ⊎ Has gained z → (Has s z × (z ≡ x → ⊥)) ⊎ (Has s x × Has gained z)
    there (inl b) = inl ((without_bit s x h z).0 b)
    there (inr b) = inr (h, b)

    back : (Has s z × (z ≡ x → ⊥)) ⊎ (Has s x × Has gained z) → Has (s - 2 ^ x) z ⊎ Has gained z
    back (inl b) = inl ((without_bit s x h z).1 b)
    back (inr b) = inr b.1

-- a set that does not have x
pub replaced_without : (x gained s : ℕ) → (Has s x → ⊥) → Replaced x gained s s
replaced_without x gained s n z = ((λ b. inl (b, λ e. n (rw (← e) b))), back)
  where
    back : (Has s z × (z ≡ x → ⊥)) ⊎ (Has s x × Has gained z) → Has s z
    back (inl b) = b.0
    back (inr b) = absurd (n b.0)

-- the first y sets are replaced, the others as they were
pub record Halfway (x gained : ℕ) (sets₀ sets : List ℕ) (y : ℕ) : Type 0 where
  pub as_many : length sets ≡ 32
  pub passed : (w : ℕ) → w < y → Replaced x gained (get_or sets₀ w 0) (get_or sets w 0)
  pub to_come : (w : ℕ) → y ≤ w → get_or sets w 0 ≡ get_or sets₀ w 0

-- one set more
pub halfway_more : (x gained : ℕ) (sets₀ sets : List ℕ) (y new : ℕ) → y < 32 → Halfway x gained sets₀ sets y → Replaced x gained (get_or sets y 0) new
    → Halfway x gained sets₀ (set sets y new) (y + 1)
halfway_more x gained sets₀ sets y new l h r =
    record {
      as_many = length-set sets y new ∙ h.as_many;
      passed = λ w q. at w q (ℕ_discrete w y);
      to_come = λ w q. get_or-set_other sets y w new 0 (λ e. omega arith) ∙ h.to_come w (omega arith);
    }
  where
    at : (w : ℕ) → w < y + 1 → Dec (w ≡ y) → Replaced x gained (get_or sets₀ w 0) (get_or (set sets y new) w 0)
    at w q (yes e) = rw (e, get_or-set_same sets y new 0 (omega (arith, h.as_many)), ← h.to_come y (omega arith)) r
    at w q (no n) = rw (get_or-set_other sets y w new 0 n) (h.passed w (omega arith))
