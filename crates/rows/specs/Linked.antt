-- Rows linked by slot: only their `before` words change.
use Rattle.std.specs.Prelude.{ℕ, ◌+◌, ◌*◌, ◌≤◌, ◌<◌, ◌≡◌, List, get_or}
use Rattle.program.specs.Limits.{row_size}
use Rattle.rows.specs.Rows.{slot_at, before_at}
use Rattle.rows.specs.Chains.{Chained}

-- every word but the `before` of the rows from..to is as it was
abbrev pub OnlyBefores : ℕ → ℕ → List ℕ → List ℕ → Type 0
OnlyBefores from to table table' =
    (i : ℕ) → ((r : ℕ) → from ≤ r → r < to → i ≡ row_size * r + 3 → ⊥) → get_or table' i 0 ≡ get_or table i 0

-- the heads of the slots lead to the last row of each, and `before` from each row to the one before it
abbrev pub BySlot : List ℕ → List ℕ → ℕ → Type 0
BySlot table heads n = Chained (slot_at table) (before_at table) heads n

pub record Linked (table : List ℕ) (from to : ℕ) (table' heads' : List ℕ) : Type 0 where
  pub by_slot : BySlot table' heads' to
  pub only_befores : OnlyBefores from to table table'
