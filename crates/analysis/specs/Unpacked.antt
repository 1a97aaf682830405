-- Rows as they stand at the end: five words, with the kind, a and b in place of the slot.
use Rattle.std.specs.Prelude.{ℕ, ◌+◌, ◌*◌, ◌≤◌, ◌≡◌, List, length, set}
use Rattle.program.specs.Program.{Nth, Program}
use Rattle.program.specs.Limits.{row_size}
use Rattle.rows.specs.Rows.{round_at, slot_at, mask_at}
use Rattle.table.specs.Rules.{Row, call, cont, solution}
use Rattle.table.specs.Table.{Entry, mask}
use Rattle.table.specs.Keys.{Regular, slot_of}
use Rattle.steps.specs.Situation.{Setting}

-- the table with the kind, a, b and the mask of row r written
abbrev pub with_words : List ℕ → ℕ → ℕ → ℕ → ℕ → ℕ → List ℕ
with_words table r kind a b mask =
    set (set (set (set table (row_size * r + 1) kind) (row_size * r + 2) a) (row_size * r + 3) b) (row_size * r + 4) mask

-- "kind (1 call, 2 cont, 3 solution), a, b, mask"
abbrev pub with_row : List ℕ → ℕ → Row ℕ → List ℕ
with_row table r (call s M) = with_words table r 1 s 0 M
with_row table r (cont n i M) = with_words table r 2 n i M
with_row table r (solution s M) = with_words table r 3 s 0 M

-- the first n rows of the table are these entries
pub record Packed (words dir table : List ℕ) (n : ℕ) : Type 0 where
  pub p : Program
  pub setting : Setting words dir p
  pub entries : List Entry
  pub many : length entries ≡ n
  pub fits : row_size * n ≤ length table
  pub each : (r : ℕ) (e : Entry) → Nth entries r e → Regular p e.row × (round_at table r ≡ e.round) × (slot_at table r ≡ slot_of p e.row) × (mask_at table r ≡ mask e.row)
