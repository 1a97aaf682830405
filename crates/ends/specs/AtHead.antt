-- The head of a clause and the shapes of the calls to it: what is asked for one shape and for all, and what they must give.
use Rattle.std.specs.Prelude.{ℕ, ◌≤◌, ◌<◌, ◌≡◌, ◌⊎◌, List, [], length, get_or, Option, Some, None}
use Rattle.terms.specs.Term.{Term}
use Rattle.marks.specs.Modes.{modes, InOrder}
use Rattle.marks.specs.Passing.{VariablesOf}
use Rattle.program.specs.Program.{Nth, Clause, Program}
use Rattle.program.specs.Shapes.{shapes, number}
use Rattle.directory.specs.Directory.{StandsAt}
use Rattle.table.specs.Rules.{call}
use Rattle.table.specs.Steps.{Opens}
use Rattle.table.specs.NewRows.{New, NewGoesOn}
use Rattle.table.specs.Keys.{body_index}
use Rattle.table.specs.RoundKeys.{Keyed}
use Rattle.steps.specs.Steps.{RowsIn}
use Rattle.steps.specs.Situation.{Setting, Chains, Unifying, HeadAsked}
use Rattle.steps.specs.Heads.{Solved, FoundOn}
use Rattle.calling.specs.Calls.{Emits}
use Rattle.solving.specs.Solving.{SolvedAt}
use Rattle.ends.specs.declared.heads.Opening.{Opening}
use Rattle.ends.specs.declared.heads.Head.{Head}

-- body atom j of the program is the first of clause k, and has its variables by first appearance in `order`
pub record FirstAtom (p : Program) (k : ℕ) (c : Clause) (j : ℕ) (order : List ℕ) (count : ℕ) : Type 0 where
  pub A : Term
  pub nth_atom : Nth c.body 0 A
  pub is : j ≡ body_index p k 0
  pub in_order : InOrder A (number A) order count

-- a clause without a body
abbrev pub NoAtom : Clause → Type 0
NoAtom c = (A : Term) → Nth c.body 0 A → ⊥

-- the first body atom of clause k, where there is one
abbrev pub OpensAt : Program → ℕ → Clause → Option Opening → Type 0
OpensAt p k c None = NoAtom c
OpensAt p k c (Some opening) = FirstAtom p k c opening.atom opening.order.variables opening.order.count

-- clause k stands in the directory
pub record ClauseAsked (words dir : List ℕ) (k : ℕ) : Type 0 where
  pub p : Program
  pub setting : Setting words dir p
  pub c : Clause
  pub nth_clause : Nth p.clauses k c

-- where its head stands, the variables of it, and its first body atom
pub record HeadKnown (words : List ℕ) (p : Program) (k : ℕ) (c : Clause) (head : Head) : Type 0 where
  pub stands : StandsAt words c.head head.at.start head.at.cells
  pub head_variables : VariablesOf c.head head.there
  pub opens : OpensAt p k c head.opening

-- shape s, which unifies with the head of clause k
pub record AtShape (dir table sets known found : List ℕ) (head : Head) (since rows s newest known-marks marks : ℕ) : Type 0 where
  pub words : List ℕ
  pub heads : List ℕ
  pub p : Program
  pub setting : Setting words dir p
  pub chains : Chains p table heads since rows
  pub k : ℕ
  pub c : Clause
  pub nth_clause : Nth p.clauses k c
  pub S : Term
  pub nth_shape : Nth (shapes p) s S
  pub newest_is : newest ≡ get_or heads s 0
  pub unifying : Unifying S c.head sets
  pub head_variables : VariablesOf c.head head.there
  pub opens : OpensAt p k c head.opening
  pub known_on : FoundOn p table rows k (length c.body) known known-marks
  pub found_on : FoundOn p table rows k (length c.body) found marks

-- the keys of what it gives: the rows that its new call rows open, and the solution rows of the marks in both sets
abbrev pub ShapeGives : Program → List ℕ → List ℕ → ℕ → List ℕ → List ℕ → ℕ → ℕ → Type 0
ShapeGives p ks₀ ks k known found s key =
    Emits p k 0 (λ N. (M : ℕ) × New modes p (RowsIn p ks₀) (RowsIn p ks) (call s M) × Opens modes p k s M N) key ⊎ SolvedAt p ks₀ ks k known found s key

-- the analysis stands at clause k, with two sets of marks that result on its head
pub record AtHead (words dir table heads known found : List ℕ) (since rows k known-marks marks : ℕ) : Type 0 where
  pub head : HeadAsked words dir table heads since rows k
  pub known_on : FoundOn head.situation.p table rows k (length head.clause.c.body) known known-marks
  pub found_on : FoundOn head.situation.p table rows k (length head.clause.c.body) found marks

-- shape s, with the head of clause k: call rows before row `from` are passed by, and none are where there are marks for all
pub record OfShape (words dir table heads known found : List ℕ) (head : Head) (since rows s from known-marks marks : ℕ) : Type 0 where
  pub k : ℕ
  pub at_head : AtHead words dir table heads known found since rows k known-marks marks
  pub head_known : HeadKnown words at_head.head.situation.p k at_head.head.clause.c head
  pub S : Term
  pub nth_shape : Nth (shapes at_head.head.situation.p) s S
  pub from_new : from ≤ since
  pub from_all : 0 < marks → from ≡ 0

-- the keys of what all shapes give: the marks in `known` go to new call rows, those in `found` to all
abbrev pub HeadGives : Program → List ℕ → List ℕ → ℕ → List ℕ → List ℕ → ℕ → Type 0
HeadGives p ks₀ ks k known found key =
    Keyed p (NewGoesOn modes p (RowsIn p ks₀) (RowsIn p ks) k 0) key ⊎ (Keyed p (Solved p ks₀ ks k known) key ⊎ Keyed p (Solved p [] ks k found) key)
