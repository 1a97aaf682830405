-- What the rounds begin with, which clauses a round looks at, and what the rounds end in.
use Rattle.std.specs.Prelude.{ℕ, suc, ◌+◌, ◌*◌, ◌≤◌, ◌<◌, ◌≡◌, ◌⊎◌, List, length, replicate}
use Rattle.terms.specs.Mask.{Has}
use Rattle.marks.specs.Modes.{modes}
use Rattle.program.specs.Program.{Program}
use Rattle.program.specs.Limits.{row_size, max_rows}
use Rattle.rows.specs.Rows.{slots, buckets as bucketCount, round_at, key_at, keys_of}
use Rattle.table.specs.Rules.{Row}
use Rattle.table.specs.NewRows.{New}
use Rattle.table.specs.Rounds.{At, First}
use Rattle.rows.specs.KeptSets.{kept_words}
use Rattle.table.specs.Table.{MoreThan}
use Rattle.table.specs.Keys.{row_of}
use Rattle.table.specs.RoundKeys.{RoundKeys}
use Rattle.steps.specs.Situation.{Setting, HeadAsked}
use Rattle.steps.specs.Steps.{RowsIn}
use Rattle.steps.specs.Unifiers.{Room}
use Rattle.concerns.specs.Active.{Concerns}
use Rattle.ends.specs.Ends.{Scratch}
use Rattle.joining.specs.KeptAnswers.{answer_set}
use Rattle.ends.specs.Keeping.{kept_set}

-- "Round 0 has one row, the goal's call": nothing is there before it
pub record RoundsAsked (words dir table buckets heads unifiers answers found kept answered : List ℕ) (room : ℕ) : Type 0 where
  pub p : Program
  pub setting : Setting words dir p
  pub no_buckets : buckets ≡ replicate bucketCount 0
  pub no_heads : heads ≡ replicate slots 0
  pub room_for_notes : Room unifiers
  pub scratch : Scratch answers found
  pub none_kept : kept ≡ replicate (kept_words kept_set) 0
  pub none_answered : answered ≡ replicate (kept_words answer_set) 0
  pub room_most : room ≤ max_rows
  pub room_there : row_size * room ≤ length table

-- what is asked before a clause is looked at: where a new row concerns it its bit is set
pub record LookAsked (words dir table heads : List ℕ) (since rows k concerns : ℕ) : Type 0 where
  pub asked : HeadAsked words dir table heads since rows k
  pub every : (row : Row ℕ) → New modes asked.situation.p (RowsIn asked.situation.p (keys_of table since)) (RowsIn asked.situation.p (keys_of table rows)) row
      → Concerns asked.situation.p k row → Has concerns k

-- each row stands with the round in which it first appears
abbrev pub InRounds : Program → List ℕ → ℕ → Type 0
InRounds p table n = (r : ℕ) → r < n → First modes p p.grounded (round_at table r) (row_of p (key_at table r))

-- the rows are those of the last round, each once
pub record Complete (p : Program) (table : List ℕ) (n : ℕ) : Type 0 where
  pub last : ℕ
  pub stops : (row : Row ℕ) → At modes p p.grounded (suc last) row → At modes p p.grounded last row
  pub keys : RoundKeys p last (keys_of table n)
  pub in_rounds : InRounds p table n
  pub distinct : (r q : ℕ) → r < n → q < n → key_at table r ≡ key_at table q → r ≡ q
  pub fits : row_size * n ≤ length table

-- "the result exceeds the room", or it is there
abbrev pub Finished : Program → ℕ → ℕ → List ℕ → Type 0
Finished p room n table = ((n ≤ room) × Complete p table n) ⊎ ((n ≡ room + 1) × MoreThan p room)
