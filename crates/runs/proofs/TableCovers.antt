-- Demand 3: the rows of the rounds, which are the least closed set, cover every run.
use mathlib.Core.Path.{◌≡◌, refl}
use Rattle.marks.specs.Domain.{Domain, Sound}
use Rattle.program.specs.Program.{Program}
use Rattle.program.specs.Shapes.{shape_of}
use Rattle.table.specs.Rules.{Row}
use Rattle.table.specs.Rounds.{Least, Appears}
use Rattle.table.proofs.RulesOf.{Within}
use Rattle.table.proofs.RoundLaws.{appears_closed, least_appears}
use Rattle.runs.specs.Cover.{CoversRuns}
use Rattle.runs.proofs.Covering.{closed_covers_runs}

-- more rows cover as well
pub covers_within {ℓ κ} : (D : Domain) (p : Program) (goal : D.Mark) (T : Row D.Mark → Type ℓ) (T' : Row D.Mark → Type κ)
    → Within T T' → CoversRuns D p goal T → CoversRuns D p goal T'
covers_within D p goal T T' within covers = record {
  calls = λ n s A called. let (M, row, by) = covers.calls n s A called in (M, within _ row, by);
  solutions = λ n s A solved. let (M, row, by) = covers.solutions n s A solved in (M, within _ row, by);
}

module _ (D : Domain) (sound : Sound D) (p : Program) (goal : D.Mark) (own : shape_of p.goal ≡ p.goal) where
  -- the rows that appear in some round
  pub rounds_cover_runs : CoversRuns D p goal (Appears D p goal)
  rounds_cover_runs = closed_covers_runs D sound p goal (Appears D p goal) (appears_closed D p goal) own (0, refl)

  -- the least closed set of rows that has the goal's call
  pub least_covers_runs : CoversRuns D p goal (Least D p goal)
  least_covers_runs = covers_within D p goal (Appears D p goal) (Least D p goal) (λ row. (least_appears D p goal row).1) rounds_cover_runs
