-- The answers of one shape's solution rows, row by row, and of the shapes one after another. For the code alone: readers go by `Answer`.
use Rattle.std.specs.Prelude.{ℕ, suc, ◌+◌, ◌*◌, ◌-◌, ◌≤◌, ◌<◌, ◌≡◌, ◌⊎◌, ◌↔◌, List, [], length}
use Rattle.terms.specs.Term.{Term}
use Rattle.marks.specs.Pass.{Pass}
use Rattle.marks.specs.Passing.{VariablesOf}
use Rattle.program.specs.Program.{Nth, Program}
use Rattle.program.specs.Shapes.{shapes}
use Rattle.program.specs.Limits.{row_size, max_rows}
use Rattle.rows.specs.Rows.{slot_at, mask_at, before_at}
use Rattle.rows.specs.Chains.{Latest}
use Rattle.table.specs.Keys.{first_solution}
use Rattle.steps.specs.Situation.{Meeting}
use Rattle.joining.specs.Answers.{Sources, Passes, Found, Stands}

-- row r is one of those of shape s from row `from` on and below row `rows`
pub record Own (table : List ℕ) (s from rows r : ℕ) : Type 0 where
  pub late : from ≤ r
  pub early : r < rows
  pub its_slot : slot_at table r ≡ first_solution + s

-- row r of shape s, from `link` on, passes q on the sets
abbrev pub Gathered : List ℕ → List ℕ → ℕ → ℕ → ℕ → ℕ → ℕ → ℕ → ℕ → ℕ → Type 0
Gathered table sets here there s from rows link r q = (link ≤ r) × Own table s from rows r × Passes table sets here there r q

-- row r of shape s passes q to atom A
abbrev pub AnswerOf : Program → List ℕ → Term → ℕ → ℕ → ℕ → ℕ → ℕ → Type 0
AnswerOf p table A from rows s r q = (S : Term) × Nth (shapes p) s S × Own table s from rows r × Pass S (mask_at table r) A 0 q

-- row r of a shape before number k passes q to atom A
abbrev pub AnswerBefore : Program → List ℕ → Term → ℕ → ℕ → ℕ → ℕ → ℕ → Type 0
AnswerBefore p table A from rows k r q = (s : ℕ) × (s < k) × AnswerOf p table A from rows s r q

-- where row r gives q: what rows from `since` on give is listed at the front, what older rows give stands at the back, from place `older` on.
-- Each answer has a row of its own, so that there is room for all.
pub record Sided (Gives : ℕ → ℕ → Type 0) (since rows : ℕ) (seen answers : List ℕ) (fresh older : ℕ) : Type 0 where
  pub front : Found (λ q. (r : ℕ) × (since ≤ r) × Gives r q) seen answers 0 fresh []
  pub back : (q : ℕ) → Stands answers older max_rows q ↔ ((r : ℕ) × (r < since) × Gives r q)
  pub most : older ≤ max_rows
  pub sources : Sources (λ r. (q : ℕ) × Gives r q) rows (fresh + (max_rows - older))

-- the rows of shape s are in a chain from `newest` on, and the answers of the shapes before number k stand in the list
pub record ShapeThere (p : Program) (A : Term) (k s rows : ℕ) (table seen answers : List ℕ) (newest from since fresh older : ℕ) : Type 0 where
  pub behind : k ≤ s
  pub latest : Latest (slot_at table) (first_solution + s) rows newest
  pub links : (r : ℕ) → r < rows → Latest (slot_at table) (slot_at table r) r (before_at table r)
  pub most : rows ≤ max_rows
  pub fits : row_size * rows ≤ length table
  pub sided : Sided (AnswerBefore p table A from rows k) since rows seen answers fresh older

-- what is asked before the answers of a shape's rows are put into the list
pub record ShapeAsked (table seen answers : List ℕ) (newest from since fresh older : ℕ) : Type 0 where
  pub p : Program
  pub A : Term
  pub k : ℕ
  pub s : ℕ
  pub rows : ℕ
  pub shape : ShapeThere p A k s rows table seen answers newest from since fresh older

-- what rows of the shapes before number k give, and rows of shape s from `link` on
abbrev pub GivenFrom : Program → Term → ℕ → ℕ → ℕ → List ℕ → List ℕ → ℕ → ℕ → ℕ → ℕ → ℕ → ℕ → Type 0
GivenFrom p A k s rows table sets here there from link r q = AnswerBefore p table A from rows k r q ⊎ Gathered table sets here there s from rows link r q

-- the walk has come to the link: the answers of the rows behind it stand in the list
pub record Walking (p : Program) (A : Term) (k s rows : ℕ) (table sets : List ℕ) (here there from since : ℕ) (seen answers : List ℕ) (fresh older link : ℕ) : Type 0 where
  pub within : link ≤ rows
  pub own : (r : ℕ) → suc r ≡ link → slot_at table r ≡ first_solution + s
  pub sided : Sided (GivenFrom p A k s rows table sets here there from link) since rows seen answers fresh older

-- what is asked before the answers of shape s to an atom are put into the list
pub record MetAsked (words dir table seen answers : List ℕ) (s newest start cells there from since fresh older : ℕ) : Type 0 where
  pub meeting : Meeting words dir s start cells
  pub variables_there : VariablesOf meeting.A there
  pub k : ℕ
  pub rows : ℕ
  pub shape : ShapeThere meeting.p meeting.A k s rows table seen answers newest from since fresh older

-- what rows of the shapes before number k give, and rows of shape s
abbrev pub GivenWith : Program → Term → ℕ → ℕ → ℕ → List ℕ → ℕ → ℕ → ℕ → Type 0
GivenWith p A k s rows table from r q = AnswerBefore p table A from rows k r q ⊎ AnswerOf p table A from rows s r q
