-- Words and sets of variables as they stand in lent bytes, the low byte first.
use Rattle.std.specs.Prelude.{ℕ, ◌+◌, ◌*◌, ◌≤◌, ◌<◌, ◌≡◌, List, length, get_or}

-- the word in two bytes, and the set in four
unfoldable pub word_at : List ℕ → ℕ → ℕ
word_at bytes i = get_or bytes i 0 + 256 * get_or bytes (i + 1) 0

unfoldable pub noted_set : List ℕ → ℕ → ℕ
noted_set bytes i = word_at bytes i + 65536 * word_at bytes (i + 2)

-- no bytes have changed but `count` from `at` on
pub record BytesPut (before after : List ℕ) (at count : ℕ) : Type 0 where
  pub size : length after ≡ length before
  pub earlier : (j : ℕ) → j < at → get_or after j 0 ≡ get_or before j 0
  pub later : (j : ℕ) → at + count ≤ j → get_or after j 0 ≡ get_or before j 0

pub record WordPut (before after : List ℕ) (at word : ℕ) : Type 0 where
  pub put : BytesPut before after at 2
  pub is : word_at after at ≡ word

pub record SetPut (before after : List ℕ) (at set : ℕ) : Type 0 where
  pub put : BytesPut before after at 4
  pub is : noted_set after at ≡ set
