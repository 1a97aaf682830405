-- The store: rows in a table with distinct keys, found through buckets; and what adding a row does to it.
use Rattle.std.specs.Prelude.{ℕ, ◌+◌, ◌*◌, ◌≤◌, ◌<◌, ◌≡◌, length, get_or, set, Result, Ok, Err}
use mathlib.Core.List.{List, [], ◌∷◌, ◌++◌, Memᴰ}
use Rattle.program.specs.Limits.{row_size, masks, max_rows}
use Rattle.rows.specs.Rows.{slots, buckets, round_at, slot_at, mask_at, next_at, key_of, key_at, keys_of, bucket_at}
use Rattle.rows.specs.declared.store.NoRoom.{NoRoom}
use Rattle.rows.specs.Chains.{Chained}

pub record Store (table heads : List ℕ) (n : ℕ) : Type 0 where
  pub room : row_size * n ≤ length table
  pub most : n ≤ max_rows
  pub slots_below : (r : ℕ) → r < n → slot_at table r < slots
  pub masks_below : (r : ℕ) → r < n → mask_at table r < masks
  pub all_buckets : length heads ≡ buckets
  pub chained : Chained (bucket_at table) (next_at table) heads n
  pub distinct : (r q : ℕ) → r < n → q < n → key_at table r ≡ key_at table q → r ≡ q

-- the words of the first n rows are as they were
abbrev pub SameRows : List ℕ → List ℕ → ℕ → Type 0
SameRows table table' n = (i : ℕ) → i < row_size * n → get_or table' i 0 ≡ get_or table i 0

-- the table with its row r written
abbrev pub with_row : List ℕ → ℕ → ℕ → ℕ → ℕ → ℕ → List ℕ
with_row table r round slot mask next =
    set (set (set (set (set table (row_size * r) round) (row_size * r + 1) slot) (row_size * r + 2) mask) (row_size * r + 3) 0) (row_size * r + 4) next

-- row n is new: it is written behind the first n rows, which stay, and its key joins theirs
pub record Grown (table heads : List ℕ) (n round slot mask : ℕ) (table' heads' : List ℕ) : Type 0 where
  pub store : Store table' heads' (n + 1)
  pub same_rows : SameRows table table' n
  pub same_behind : (i : ℕ) → row_size * (n + 1) ≤ i → get_or table' i 0 ≡ get_or table i 0
  pub keys : keys_of table' (n + 1) ≡ keys_of table n ++ (key_of slot mask ∷ [])
  pub its_round : round_at table' n ≡ round
  pub its_slot : slot_at table' n ≡ slot
  pub its_mask : mask_at table' n ≡ mask

-- the number of rows that the answer of a step stands for: 1 more than the room where there is no room for a row
abbrev pub reached : ℕ → Result ℕ NoRoom → ℕ
reached room (Ok n) = n
reached room (Err e) = room + 1

-- "A row appears once": the key was there already, or its row is new, or it is new and there is no room
pub data Added (table heads : List ℕ) (n room round slot mask r : ℕ) (table' heads' : List ℕ) : Type 0 where
  there : Memᴰ (key_of slot mask) (keys_of table n) → r ≡ n → table' ≡ table → heads' ≡ heads → Added table heads n room round slot mask r table' heads'
  new : (Memᴰ (key_of slot mask) (keys_of table n) → ⊥) → n < room → r ≡ n + 1 → Grown table heads n round slot mask table' heads'
      → Added table heads n room round slot mask r table' heads'
  full : (Memᴰ (key_of slot mask) (keys_of table n) → ⊥) → n ≡ room → r ≡ room + 1 → table' ≡ table → heads' ≡ heads
      → Added table heads n room round slot mask r table' heads'
