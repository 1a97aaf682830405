-- A set of masks as bits in 4,096 lent words: mask q is bit q % 16 of word q / 16.
use Rattle.std.specs.Prelude.{ℕ, ◌/◌, ◌%◌, ◌^◌, ◌≡◌, List, ◌↔◌, ◌⊎◌, Bool, get_or, set, bit_or, T}
use Rattle.terms.specs.Mask.{Has}

abbrev pub set_words : ℕ
set_words = 4096

abbrev pub InSet : List ℕ → ℕ → Type 0
InSet set q = Has (get_or set (q / 16) 0) (q % 16)

-- the set with the bit of q
abbrev pub with_mask : List ℕ → ℕ → List ℕ
with_mask words q = set words (q / 16) (bit_or (get_or words (q / 16) 0) (2 ^ (q % 16)))

-- q is put in: the answer is true where it was not there
pub record Inserted (set set' : List ℕ) (q : ℕ) (new : Bool) : Type 0 where
  pub was_new : T new ↔ (InSet set q → ⊥)
  pub members : (p : ℕ) → InSet set' p ↔ (InSet set p ⊎ (p ≡ q))
