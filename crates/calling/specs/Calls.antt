-- Rule 1: call rows of a shape, and the marks that they pass to the head of a clause.
use Rattle.std.specs.Prelude.{ℕ, ◌≤◌, ◌<◌, ◌≡◌, List, get_or}
use Rattle.terms.specs.Term.{Term}
use Rattle.marks.specs.Modes.{modes}
use Rattle.marks.specs.Passing.{VariablesOf}
use Rattle.program.specs.Program.{Nth, Clause, Program}
use Rattle.program.specs.Shapes.{shapes}
use Rattle.rows.specs.Rows.{slot_at, mask_at, keys_of}
use Rattle.directory.specs.Directory.{StandsAt, predicate_of}
use Rattle.table.specs.Rules.{call}
use Rattle.table.specs.Steps.{Opens}
use Rattle.table.specs.NewRows.{New}
use Rattle.table.specs.Keys.{Few}
use Rattle.table.specs.RoundKeys.{Keyed}
use Rattle.steps.specs.Steps.{RowsIn, Emitted}
use Rattle.steps.specs.Situation.{Setting, Chains, Unifying, Place}

-- marks that new call rows of shape s pass to the head of clause k
abbrev pub OpenedBy : Program → List ℕ → ℕ → ℕ → ℕ → ℕ → ℕ → Type 0
OpenedBy p table since rows k s N =
    (M : ℕ) × New modes p (RowsIn p (keys_of table since)) (RowsIn p (keys_of table rows)) (call s M) × Opens modes p k s M N

-- the same of the rows from the link on
abbrev pub OpenedFrom : Program → List ℕ → ℕ → ℕ → ℕ → ℕ → ℕ → ℕ → Type 0
OpenedFrom p table since rows k s link N =
    (r : ℕ) × (link ≤ r) × (since ≤ r) × (r < rows) × (slot_at table r ≡ s) × Opens modes p k s (mask_at table r) N

-- the same of all shapes of the predicate below a number
abbrev pub OpenedBelow : Program → List ℕ → ℕ → ℕ → ℕ → ℕ → ℕ → ℕ → Type 0
OpenedBelow p table since rows k predicate from N =
    (s : ℕ) × (s < from) × (S : Term) × Nth (shapes p) s S × (predicate_of S ≡ predicate) × OpenedBy p table since rows k s N

-- the keys of the rows that such marks give for body atom i
abbrev pub Emits : Program → ℕ → ℕ → (ℕ → Type 0) → ℕ → Type 0
Emits p k i P key = (N : ℕ) × P N × Keyed p (Emitted p k i N) key

-- the call rows of a shape that unifies with the head of clause k, newest first
pub record CallsOf (p : Program) (table sets : List ℕ) (newest here there since rows k : ℕ) : Type 0 where
  pub heads : List ℕ
  pub chains : Chains p table heads since rows
  pub few : Few p
  pub s : ℕ
  pub S : Term
  pub nth_shape : Nth (shapes p) s S
  pub c : Clause
  pub nth_clause : Nth p.clauses k c
  pub unifying : Unifying S c.head sets
  pub shape_variables : VariablesOf S here
  pub head_variables : VariablesOf c.head there
  pub newest_is : newest ≡ get_or heads s 0

-- for a clause whose first body atom is j
pub record EmitAsked (dir order table sets : List ℕ) (count newest here there since rows j : ℕ) : Type 0 where
  pub place : Place dir order count j
  pub is_first : place.i ≡ 0
  pub calls : CallsOf place.p table sets newest here there since rows place.k

-- for a clause without a body
pub record MarkAsked (table sets : List ℕ) (newest here there since : ℕ) : Type 0 where
  pub p : Program
  pub rows : ℕ
  pub k : ℕ
  pub calls : CallsOf p table sets newest here there since rows k

-- shape s, and the head of clause k at its place in the words
pub record ShapeOf (words dir table heads : List ℕ) (p : Program) (since rows k s start cells there : ℕ) : Type 0 where
  pub setting : Setting words dir p
  pub chains : Chains p table heads since rows
  pub S : Term
  pub nth_shape : Nth (shapes p) s S
  pub c : Clause
  pub nth_clause : Nth p.clauses k c
  pub stands : StandsAt words c.head start cells
  pub head_variables : VariablesOf c.head there

-- for a clause without a body
pub record MarkShape (words dir table heads : List ℕ) (since s start cells there : ℕ) : Type 0 where
  pub p : Program
  pub rows : ℕ
  pub k : ℕ
  pub shape : ShapeOf words dir table heads p since rows k s start cells there
