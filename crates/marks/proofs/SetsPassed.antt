-- Marks passed on sets of variables: what the tests of sets and masks say of marked variables.
use Prim.Native.Nat.{ℕ, ◌+◌}
use mathlib.Core.Path.{◌≡◌}
use mathlib.Core.Logic.{◌↔◌, ◌⊎◌, inl, inr}
use mathlib.Core.List.{List}
use lib.ListN.{get_or}
use lib.Bits.{bit_and, bit_or, bit_xor}
use Rattle.terms.specs.Mask.{Has, Marks}
use Rattle.terms.proofs.Masks.{has_none, has_decided, has_or, has_and, inside_and}
use Rattle.marks.specs.Passing.{KnownIn, AllKnownIn, MarkedIn}
use Rattle.marks.proofs.SingleBits.{has_xor, JustOne}
use Rattle.marks.proofs.MaskLoops.{Gathered, Sorted}

-- the variable's set is inside the set
abbrev pub Inside : List ℕ → ℕ → ℕ → ℕ → Type 0
Inside sets to set y = bit_and (get_or sets (to + y) 0) set ≡ get_or sets (to + y) 0

-- the variables of a mask that another does not mark
pub has_less : (q n : ℕ) → Marks (λ y. Has q y × (Has n y → ⊥)) (bit_xor q (bit_and q n))
has_less q n y = (λ b. at ((has_xor q (bit_and q n) y).0 b), λ h. (has_xor q (bit_and q n) y).1 (inl (h.0, λ b. h.1 ((has_and q n y).0 b).1)))
  where
    at : JustOne (Has q y) (Has (bit_and q n) y) → Has q y × (Has n y → ⊥)
    at (inl j) = (j.0, λ b. j.1 ((has_and q n y).1 (j.0, b)))
    at (inr j) = absurd (j.1 ((has_and q n y).0 j.0).0)

-- the union of the sets of all marked variables that are present: "known ground"
pub known_of_gathered : (sets : List ℕ) (from m p all : ℕ) → Gathered sets from (bit_and m p) 0 all → Marks (KnownIn sets from m p) all
known_of_gathered sets from m p all g z = (
  λ b. let k = (g z).0 b in let h = (has_and m p k.0).0 k.1.0 in (k.0, h.0, h.1, k.2),
  λ k. (g z).1 (k.0, ((has_and m p k.0).1 (k.1, k.2), has_none k.0), k.3),
)

module _ (sets : List ℕ) (from m p to n q known grounded : ℕ) (k : Marks (KnownIn sets from m p) known)
    (g : Sorted (Inside sets to known) (bit_xor q (bit_and q n)) 0 grounded) where
  inside_known : (y : ℕ) → Inside sets to known y ↔ AllKnownIn sets from m p to y
  inside_known y =
      let i = inside_and (get_or sets (to + y) 0) known in
      (λ e z b. (k z).0 (i.0 e z b), λ h. i.1 (λ z b. (k z).1 (h z b)))

  -- "marked in the result if N marks it, or if all variables in what it stands for are known ground"
  pub marked_of_ground : Marks (MarkedIn sets from m p to n q) (bit_or n grounded)
  marked_of_ground y = (λ b. out ((has_or n grounded y).0 b), λ h. (has_or n grounded y).1 (back h (has_decided n y)))
    where
      out : Has n y ⊎ Has grounded y → MarkedIn sets from m p to n q y
      out (inl b) = inl b
      out (inr b) = let e = (g y).0 b in inr (((has_less q n y).0 e.0.0).0, (inside_known y).0 e.1)

      back : MarkedIn sets from m p to n q y → Dec (Has n y) → Has n y ⊎ Has grounded y
      back h (yes b) = inl b
      back (inl b) (no o) = inl b
      back (inr h) (no o) = inr ((g y).1 (((has_less q n y).1 (h.0, o), has_none y), (inside_known y).1 h.1))
