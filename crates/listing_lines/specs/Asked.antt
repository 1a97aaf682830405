-- The parts of a row's line by the row's words, and what the functions that write one line are asked. For the code alone: readers go by `Lines`.
use Rattle.std.specs.Prelude.{ℕ, ◌+◌, ◌-◌, ◌*◌, ◌<◌, ◌≡◌, cond, List, [], ◌∷◌, ◌++◌, length, get_or, eqb}
use Rattle.terms.specs.Term.{Term, Occ}
use Rattle.program.specs.Program.{Nth, Program}
use Rattle.program.specs.Shapes.{shapes, Listed}
use Rattle.program.specs.Limits.{row_size}
use Rattle.table.specs.Rules.{Row, call, cont, solution}
use Rattle.table.specs.Table.{row_words}
use Rattle.table.specs.Keys.{Regular}
use Rattle.steps.specs.Situation.{Setting}
use Rattle.text.specs.Decimal.{decimal}
use Rattle.written_lines.specs.Walked.{Named}
use Rattle.listing_lines.specs.Lines.{call_word, cont_word, sol_word, dot, shape_at, clause_at}

-- "kind (1 call, 2 cont, 3 solution)"
abbrev pub kind_word : ℕ → List ℕ
kind_word kind = cond (eqb kind 1) call_word (cond (eqb kind 2) cont_word sol_word)

-- "shape (or clause.place)"
abbrev pub about_token : ℕ → ℕ → ℕ → List ℕ
about_token kind a b = decimal a ++ cond (eqb kind 2) (dot ∷ decimal b) []

-- the variables of a row's shape, or of the list of its place
abbrev pub VariableOf : Program → Row ℕ → ℕ → Type 0
VariableOf p (call s mask) v = Occ v (shape_at p s)
VariableOf p (cont n i mask) v = Listed (clause_at p n) (i - 1) v
VariableOf p (solution s mask) v = Occ v (shape_at p s)

-- a row of the program by its words
pub record AboutRow (dir : List ℕ) (kind a b : ℕ) : Type 0 where
  pub words : List ℕ
  pub p : Program
  pub setting : Setting words dir p
  pub row : Row ℕ
  pub regular : Regular p row
  pub mask : ℕ
  pub row_is : row_words row ≡ kind ∷ a ∷ b ∷ mask ∷ []

-- row r of the table
pub record RowIn (dir table : List ℕ) (r : ℕ) : Type 0 where
  pub words : List ℕ
  pub p : Program
  pub setting : Setting words dir p
  pub round : ℕ
  pub row : Row ℕ
  pub regular : Regular p row
  pub fits : row_size * r + 4 < length table
  pub round_is : round ≡ get_or table (row_size * r) 0
  pub row_is :
      row_words row
      ≡ get_or table (row_size * r + 1) 0 ∷ get_or table (row_size * r + 2) 0 ∷ get_or table (row_size * r + 3) 0 ∷ get_or table (row_size * r + 4) 0 ∷ []

-- an accepted program with its directory and its names
pub record Spoken (words dir names : List ℕ) : Type 0 where
  pub p : Program
  pub setting : Setting words dir p
  pub named : Named names (length p.predicates) (length p.functions)

-- shape number s of such a program
pub record ShapeAsked (words dir names : List ℕ) (s : ℕ) : Type 0 where
  pub spoken : Spoken words dir names
  pub S : Term
  pub nth_shape : Nth (shapes spoken.p) s S
