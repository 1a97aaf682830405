-- What a clause gives with its head and ends in, and the scratch that it is lent.
use Rattle.std.specs.Prelude.{ℕ, ◌≡◌, ◌⊎◌, List, length, replicate}
use Rattle.marks.specs.Modes.{modes}
use Rattle.program.specs.Program.{Program}
use Rattle.program.specs.Limits.{max_rows}
use Rattle.rows.specs.MaskSet.{set_words}
use Rattle.table.specs.NewRows.{NewGoesOn, NewEnds, LateCalls}
use Rattle.table.specs.RoundKeys.{Keyed}
use Rattle.steps.specs.Steps.{RowsIn}

-- what clause k ends in
abbrev pub AtEnd : Program → List ℕ → List ℕ → ℕ → ℕ → Type 0
AtEnd p ks₀ ks k key = Keyed p (NewEnds modes p (RowsIn p ks₀) (RowsIn p ks) k) key ⊎ Keyed p (LateCalls modes p (RowsIn p ks₀) (RowsIn p ks) k) key

-- what a round looks at with the head of clause k: what new call rows open, and what the clause ends in
abbrev pub WithHead : Program → List ℕ → List ℕ → ℕ → ℕ → Type 0
WithHead p ks₀ ks k key = Keyed p (NewGoesOn modes p (RowsIn p ks₀) (RowsIn p ks) k 0) key ⊎ AtEnd p ks₀ ks k key

-- the scratch of a round: a list for the answers, and nothing found
pub record Scratch (answers found : List ℕ) : Type 0 where
  pub all_answers : length answers ≡ max_rows
  pub none_found : found ≡ replicate set_words 0
