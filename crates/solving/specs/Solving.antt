-- Rule 3, a shape and a call row at a time: what is asked of the steps, and what they must add.
use Rattle.std.specs.Prelude.{ℕ, ◌+◌, ◌≤◌, ◌<◌, ◌≡◌, ◌⊎◌, length, get_or}
use mathlib.Core.List.{List, [], Memᴰ}
use Rattle.terms.specs.Term.{Term, Occ}
use Rattle.terms.specs.Mask.{Has}
use Rattle.marks.specs.Modes.{modes}
use Rattle.marks.specs.Pass.{Pass}
use Rattle.marks.specs.Passing.{VariablesOf}
use Rattle.program.specs.Program.{Nth, Clause, Program}
use Rattle.program.specs.Shapes.{shapes}
use Rattle.rows.specs.Rows.{keys_of, key_of}
use Rattle.rows.specs.MaskSet.{InSet}
use Rattle.table.specs.Rules.{Row, call, solution}
use Rattle.table.specs.NewRows.{New}
use Rattle.table.specs.Keys.{first_solution}
use Rattle.table.specs.RoundKeys.{Keyed}
use Rattle.steps.specs.Steps.{RowsIn}
use Rattle.steps.specs.Situation.{Setting, Chains, Unifying}
use Rattle.steps.specs.Heads.{HeadMark, SolvedOf, FoundOn}

-- the head H of clause k and shape s, whose newest call row is known
pub record ToShape (table : List ℕ) (since rows newest slot : ℕ) : Type 0 where
  pub words : List ℕ
  pub dir : List ℕ
  pub heads : List ℕ
  pub p : Program
  pub setting : Setting words dir p
  pub chains : Chains p table heads since rows
  pub k : ℕ
  pub c : Clause
  pub nth_clause : Nth p.clauses k c
  pub s : ℕ
  pub S : Term
  pub nth_shape : Nth (shapes p) s S
  pub slot_is : slot ≡ first_solution + s
  pub newest_is : newest ≡ get_or heads s 0

-- marks q on the head, which result for it, pass `mask` to the shape
pub record PassesTo {table : List ℕ} {since rows newest slot : ℕ} (w : ToShape table since rows newest slot) (mask q : ℕ) : Type 0 where
  pub marks : HeadMark w.p table 0 rows w.k (length w.c.body) q
  pub passed : Pass w.c.head q w.S 0 mask

-- the solution rows of the shape for marks q and the call rows from row `from` on, "which keeps the call's own marks"
pub record SolvedBy {table : List ℕ} {since rows newest slot : ℕ} (w : ToShape table since rows newest slot) (from q : ℕ) (row : Row ℕ) : Type 0 where
  pub C : ℕ
  pub there : New modes w.p (RowsIn w.p (keys_of table from)) (RowsIn w.p (keys_of table rows)) (call w.s C)
  pub R : ℕ
  pub passed : Pass w.c.head q w.S C R
  pub is : row ≡ solution w.s R

-- the sets of the unifier of shape S and head H, and the variables of each
pub record ShapeSets (S H : Term) (sets : List ℕ) (here there : ℕ) : Type 0 where
  pub unifying : Unifying S H sets
  pub shape_variables : VariablesOf S here
  pub head_variables : VariablesOf H there

-- the set has marks that result on the head, all below `marks`
abbrev pub FoundFor : {table : List ℕ} {since rows newest slot : ℕ} → ToShape table since rows newest slot → List ℕ → ℕ → Type 0
FoundFor {table} {rows = rows} w found marks = FoundOn w.p table rows w.k (length w.c.body) found marks

-- the solution rows of the shape for the marks below `marks` in the set
abbrev pub SolvedBelow : {table : List ℕ} {since rows newest slot : ℕ} → ToShape table since rows newest slot → ℕ → List ℕ → ℕ → Row ℕ → Type 0
SolvedBelow w from found marks row = (q : ℕ) × (q < marks) × InSet found q × SolvedBy w from q row

-- the keys of a slot's rows whose masks are in the set, and of the variables of S alone
abbrev pub SetKeys : Term → ℕ → List ℕ → ℕ → Type 0
SetKeys S slot set key = (N : ℕ) × ((v : ℕ) → Has N v → Occ v S) × InSet set N × (key ≡ key_of slot N)

-- what is asked before the call rows of a shape are gone through: the solution rows of the masks in the set are among the first n
pub record CallsAsked (table solved : List ℕ) (since rows newest slot mask n : ℕ) : Type 0 where
  pub to : ToShape table since rows newest slot
  pub q : ℕ
  pub passes : PassesTo to mask q
  pub solved_there : (key : ℕ) → SetKeys to.S slot solved key → Memᴰ key (keys_of table n)

-- what is asked before the marks in the set go to a shape
pub record ShapeAsked (table sets found : List ℕ) (since from rows newest slot here there marks : ℕ) : Type 0 where
  pub to : ToShape table since rows newest slot
  pub shape_sets : ShapeSets to.S to.c.head sets here there
  pub found_for : FoundFor to found marks
  pub from_within : from ≤ rows

-- and before those in two sets do: the marks in `known` go to new call rows, those in `found` to all
pub record SetsAsked (table sets known found : List ℕ) (since rows newest slot here there known-marks marks : ℕ) : Type 0 where
  pub to : ToShape table since rows newest slot
  pub shape_sets : ShapeSets to.S to.c.head sets here there
  pub known_for : FoundFor to known known-marks
  pub found_for : FoundFor to found marks

-- the keys of the solution rows of shape s that they give: ks₀ are the keys of the round before, ks those so far
abbrev pub SolvedAt : Program → List ℕ → List ℕ → ℕ → List ℕ → List ℕ → ℕ → ℕ → Type 0
SolvedAt p ks₀ ks k known found s key = Keyed p (SolvedOf p ks₀ ks k known s) key ⊎ Keyed p (SolvedOf p [] ks k found s) key
