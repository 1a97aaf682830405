-- What it means that a row covers an atom, and that a set of rows covers every run of a program.
use Rattle.std.specs.Prelude.{ℕ, ◌≡◌}
use Rattle.terms.specs.Term.{Term, Subst, sub}
use Rattle.marks.specs.Domain.{Domain}
use Rattle.program.specs.Program.{Nth, Program}
use Rattle.program.specs.Shapes.{shapes}
use Rattle.table.specs.Rules.{Row, call, solution}
use Rattle.runs.specs.Run.{Called, Solved}

-- "An atom is *covered* by a row if it is the row's shape with a term for each variable, ground where marked."
pub record Covered (D : Domain) (p : Program) (s : ℕ) (M : D.Mark) (A : Term) : Type 0 where
  pub shape : Term
  pub numbered : Nth (shapes p) s shape
  pub terms : Subst
  pub reads : A ≡ sub shape terms
  pub holds : D.Holds M terms

-- a call row of the set, of shape s, covers the atom
abbrev pub ByCall {ℓ} : (D : Domain) (p : Program) → (Row D.Mark → Type ℓ) → ℕ → Term → Type ℓ
ByCall D p T s A = (M : D.Mark) × T (call s M) × Covered D p s M A

-- a solution row of the set, of shape s, covers the atom
abbrev pub BySolution {ℓ} : (D : Domain) (p : Program) → (Row D.Mark → Type ℓ) → ℕ → Term → Type ℓ
BySolution D p T s A = (M : D.Mark) × T (solution s M) × Covered D p s M A

-- Demand 3: in every run, after every number of steps, each atom called is covered by a call row of the shape that it was written in,
-- and each atom solved by a solution row of that shape.
pub record CoversRuns {ℓ} (D : Domain) (p : Program) (goal : D.Mark) (T : Row D.Mark → Type ℓ) : Type ℓ where
  pub calls : (n s : ℕ) (A : Term) → Called D p goal n s A → ByCall D p T s A
  pub solutions : (n s : ℕ) (A : Term) → Solved D p goal n s A → BySolution D p T s A
