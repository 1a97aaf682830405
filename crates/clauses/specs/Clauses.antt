-- A clause in a round: its middle places, and what it goes on to.
use Rattle.std.specs.Prelude.{ℕ, suc, ◌+◌, ◌≡◌, List, length}
use Rattle.marks.specs.Modes.{modes}
use Rattle.program.specs.Program.{Program}
use Rattle.table.specs.Keys.{body_index}
use Rattle.table.specs.Added.{Below}
use Rattle.table.specs.NewRows.{NewGoesOn}
use Rattle.table.specs.RoundKeys.{Keyed}
use Rattle.steps.specs.Steps.{RowsIn}
use Rattle.steps.specs.Situation.{Situation, ClauseOf}

-- the body atoms first..last are those of clause k but its last
pub record MiddlesAsked (words dir table heads : List ℕ) (since rows first last : ℕ) : Type 0 where
  pub situation : Situation words dir table heads since rows
  pub k : ℕ
  pub clause : ClauseOf situation.p k
  pub middles : ℕ
  pub all_but_one : length clause.c.body ≡ suc middles
  pub first_is : first ≡ body_index situation.p k 0
  pub last_is : last ≡ first + middles

-- what marks go on to past the first i places of clause k: ks₀ are the keys of the round before, ks those so far
abbrev pub PastPlaces : Program → List ℕ → List ℕ → ℕ → ℕ → ℕ → Type 0
PastPlaces p ks₀ ks k i = Below (λ i. Keyed p (NewGoesOn modes p (RowsIn p ks₀) (RowsIn p ks) k (suc i))) i
