-- What the rounds work in, beside the table, while a round looks at a clause.
use Rattle.std.specs.Prelude.{ℕ, ◌≤◌, List}
use Rattle.steps.specs.Steps.{Writable}
use Rattle.joining.specs.KeptAnswers.{KeepsAnswers}
use Rattle.ends.specs.Ends.{Scratch}
use Rattle.ends.specs.Keeping.{KeepsMarks}
use Rattle.clauses.specs.declared.workspace.Workspace.{Workspace}

-- the table has n rows, of which `rows` were there before the round: a row more can be written, the scratch is as a clause asks for it, and what is kept of
-- marks and of answers is that of these rows
pub record Working (words dir table : List ℕ) (work : Workspace) (rows n room : ℕ) : Type 0 where
  pub writable : Writable table work.buckets n room
  pub behind : rows ≤ n
  pub scratch : Scratch work.answers work.found
  pub marks : KeepsMarks words dir table work.kept rows n
  pub answers : KeepsAnswers words dir table work.answered rows
