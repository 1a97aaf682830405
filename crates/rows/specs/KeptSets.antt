-- Sets of masks that are kept between rounds, in lent words: one for each of so many things, and behind the sets a word for each thing, of how many
-- rows its set is the result.
use Rattle.std.specs.Prelude.{ℕ, ◌+◌, ◌*◌, ◌/◌, ◌%◌, ◌≤◌, ◌<◌, ◌≡◌, ◌⊎◌, ◌↔◌, List, length, get_or}
use Rattle.terms.specs.Mask.{Has}
use Rattle.rows.specs.MaskSet.{InSet}

-- the masks of a set of so many words
abbrev pub masks_in : ℕ → ℕ
masks_in size = 16 * size

-- mask q is in the set that begins at word `first`
abbrev pub KeptAt : List ℕ → ℕ → ℕ → Type 0
KeptAt kept first q = Has (get_or kept (first + q / 16) 0) (q % 16)

-- the set of so many words from `first` on has gained these masks, and nothing else has changed
pub record Gained (P : ℕ → Type 0) (first size : ℕ) (kept kept' : List ℕ) : Type 0 where
  pub as_long : length kept' ≡ length kept
  pub members : (q : ℕ) → q < masks_in size → KeptAt kept' first q ↔ (KeptAt kept first q ⊎ P q)
  pub others : (i : ℕ) → (i < first) ⊎ (first + size ≤ i) → get_or kept' i 0 ≡ get_or kept i 0

-- the set `found` has lost the masks that are kept in that set, and no others
pub record Unkept (kept : List ℕ) (first size : ℕ) (found found' : List ℕ) : Type 0 where
  pub as_long : length found' ≡ length found
  pub members : (q : ℕ) → InSet found' q ↔ (InSet found q × (q < masks_in size → KeptAt kept first q → ⊥))

-- how many things have a set
abbrev pub things : ℕ
things = 64

-- of how many rows the set of thing k is the result, where a set has so many words
abbrev pub known_of : ℕ → List ℕ → ℕ → ℕ
known_of size kept k = get_or kept (size * things + k) 0

abbrev pub kept_words : ℕ → ℕ
kept_words size = size * things + things

-- for each thing exactly the masks that result from the rows that are known, which are some of the first n
pub record Keeping (size : ℕ) (Thing : ℕ → Type 0) (Result : (k : ℕ) → Thing k → ℕ → ℕ → Type 0) (kept : List ℕ) (n : ℕ) : Type 0 where
  pub every_word : length kept ≡ kept_words size
  pub known_within : (k : ℕ) → Thing k → known_of size kept k ≤ n
  pub members : (k : ℕ) (w : Thing k) (q : ℕ) → q < masks_in size → KeptAt kept (size * k) q ↔ Result k w (known_of size kept k) q
