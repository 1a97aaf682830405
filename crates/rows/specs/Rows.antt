-- The rows of a table in lent words: where the words of a row stand, and a row's key.
use Rattle.std.specs.Prelude.{ℕ, zero, suc, ◌+◌, ◌*◌, ◌/◌, ◌%◌, List, [], ◌∷◌, ◌++◌, get_or}
use Rattle.program.specs.Limits.{row_size, masks, max_shapes}

-- a slot stands for what rows are about: a kind with a shape, or a clause and place
abbrev pub slots : ℕ
slots = 3 * max_shapes

abbrev pub buckets : ℕ
buckets = 2048

-- the words of a row while the rounds run: round, slot, mask, `before` and `next`
abbrev pub round_at : List ℕ → ℕ → ℕ
round_at table r = get_or table (row_size * r) 0

abbrev pub slot_at : List ℕ → ℕ → ℕ
slot_at table r = get_or table (row_size * r + 1) 0

abbrev pub mask_at : List ℕ → ℕ → ℕ
mask_at table r = get_or table (row_size * r + 2) 0

-- 1 + the row before of the same slot, or 0
abbrev pub before_at : List ℕ → ℕ → ℕ
before_at table r = get_or table (row_size * r + 3) 0

-- 1 + the row before in the same bucket, or 0
abbrev pub next_at : List ℕ → ℕ → ℕ
next_at table r = get_or table (row_size * r + 4) 0

-- "A row appears once": of two rows with one key there is one
abbrev pub key_of : ℕ → ℕ → ℕ
key_of slot mask = slot * masks + mask

abbrev pub key_at : List ℕ → ℕ → ℕ
key_at table r = key_of (slot_at table r) (mask_at table r)

-- the keys of the first n rows
abbrev pub keys_of : List ℕ → ℕ → List ℕ
keys_of table zero = []
keys_of table (suc n) = keys_of table n ++ (key_at table n ∷ [])

-- the bucket that a key is looked for in: eleven bits of a product that spreads the keys
unfoldable pub bucket_of : ℕ → ℕ → ℕ
bucket_of slot mask = key_of slot mask * 2654435769 / 1048576 % buckets

abbrev pub bucket_at : List ℕ → ℕ → ℕ
bucket_at table r = bucket_of (slot_at table r) (mask_at table r)
