-- Where the analysis stands: an accepted program with its directory, the rows so far in chains by slot, and where an atom of the program is.
use Rattle.std.specs.Prelude.{ℕ, suc, ◌*◌, ◌≤◌, ◌<◌, ◌≡◌, Bool, List, length}
use Rattle.terms.specs.Term.{Term, Subst, Occ}
use Rattle.terms.specs.Cells.{Atom, enc, pick}
use Rattle.terms.specs.Mask.{Marks}
use Rattle.terms.specs.Unifier.{Apart, MostGeneral}
use Rattle.terms.specs.Unified.{Sets, Unified, Bindings}
use Rattle.marks.specs.Modes.{InOrder}
use Rattle.program.specs.Program.{Nth, Clause, Program}
use Rattle.program.specs.Shapes.{shapes, number}
use Rattle.program.specs.Faults.{faults, sound}
use Rattle.program.specs.Limits.{row_size, masks, max_rows}
use Rattle.directory.specs.Directory.{Directory, StandsAt}
use Rattle.rows.specs.Rows.{slots, mask_at, key_at}
use Rattle.rows.specs.Linked.{BySlot}
use Rattle.table.specs.Keys.{row_key, row_of, Regular, body_index}

-- an accepted program with its directory
pub record Setting (words dir : List ℕ) (p : Program) : Type 0 where
  pub accepted : faults words ≡ sound p
  pub directory : Directory words p dir

-- the first `rows` rows of the table are rows of the program, in chains by slot; those from `since` on are new
pub record Chains (p : Program) (table heads : List ℕ) (since rows : ℕ) : Type 0 where
  pub by_slot : BySlot table heads rows
  pub all_heads : length heads ≡ slots
  pub new : since ≤ rows
  pub most : rows ≤ max_rows
  pub fits : row_size * rows ≤ length table
  pub masks_below : (r : ℕ) → r < rows → mask_at table r < masks
  pub distinct : (r q : ℕ) → r < rows → q < rows → key_at table r ≡ key_at table q → r ≡ q
  pub regular : (r : ℕ) → r < rows → Regular p (row_of p (key_at table r)) × (row_key p (row_of p (key_at table r)) ≡ key_at table r)

pub record Situation (words dir table heads : List ℕ) (since rows : ℕ) : Type 0 where
  pub p : Program
  pub setting : Setting words dir p
  pub chains : Chains p table heads since rows

-- a shape, and an atom that stands in the words
pub record Meeting (words dir : List ℕ) (shape start cells : ℕ) : Type 0 where
  pub p : Program
  pub setting : Setting words dir p
  pub S : Term
  pub nth_shape : Nth (shapes p) shape S
  pub A : Term
  pub stands : StandsAt words A start cells
  pub atom : Atom p.predicates p.functions A

-- they are apart, or the sets are those of a most general unifier
pub record Unifying (S A : Term) (sets : List ℕ) : Type 0 where
  pub α : Subst
  pub β : Subst
  pub most_general : MostGeneral S A α β
  pub sets_right : Sets α β sets

abbrev pub Met : Term → Term → Bool → List ℕ → Type 0
Met S A r sets = pick r (Unifying S A sets) (Apart S A)

-- the store that is left of them, with the bindings and the sets of a most general unifier
abbrev pub MetStore : List ℕ → Term → Term → Bool → List ℕ → List ℕ → Type 0
MetStore functions S A r places sets = pick r (Unified functions (enc S) (enc A) S A places sets) (Apart S A)

-- the bindings of such a store
abbrev pub MetBindings : List ℕ → Term → Term → List ℕ → Type 0
MetBindings functions S A places = Bindings functions (enc S) (enc A) S A places

-- the body atom j, with its variables by first appearance
pub record Place (dir order : List ℕ) (count j : ℕ) : Type 0 where
  pub words : List ℕ
  pub p : Program
  pub setting : Setting words dir p
  pub k : ℕ
  pub i : ℕ
  pub c : Clause
  pub A : Term
  pub nth_clause : Nth p.clauses k c
  pub nth_atom : Nth c.body i A
  pub is : j ≡ body_index p k i
  pub in_order : InOrder A (number A) order count

-- clause k
pub record ClauseOf (p : Program) (k : ℕ) : Type 0 where
  pub c : Clause
  pub nth_clause : Nth p.clauses k c

-- body atom j
pub record BodyOf (p : Program) (j : ℕ) : Type 0 where
  pub k : ℕ
  pub i : ℕ
  pub c : Clause
  pub A : Term
  pub nth_clause : Nth p.clauses k c
  pub nth_atom : Nth c.body i A
  pub is : j ≡ body_index p k i

-- the run of an atom
pub record AtomRun (run : List ℕ) (A : Term) : Type 0 where
  pub predicates : List ℕ
  pub functions : List ℕ
  pub is : run ≡ enc A
  pub atom : Atom predicates functions A
  pub few : length predicates ≤ 64

pub record AnAtom (run : List ℕ) : Type 0 where
  pub A : Term
  pub atom_run : AtomRun run A

-- the analysis stands at clause k
pub record HeadAsked (words dir table heads : List ℕ) (since rows k : ℕ) : Type 0 where
  pub situation : Situation words dir table heads since rows
  pub clause : ClauseOf situation.p k

-- the analysis stands at body atom j, which has another behind it
pub record MiddleAsked (words dir table heads : List ℕ) (since rows j : ℕ) : Type 0 where
  pub situation : Situation words dir table heads since rows
  pub body : BodyOf situation.p j
  pub next : Term
  pub nth_next : Nth body.c.body (suc body.i) next

-- the analysis stands at body atom j, the last of its clause, whose head has the variables `there`
pub record LastAsked (words dir table heads : List ℕ) (since rows j there : ℕ) : Type 0 where
  pub situation : Situation words dir table heads since rows
  pub body : BodyOf situation.p j
  pub last : length body.c.body ≡ suc body.i
  pub head_variables : Marks (λ v. Occ v body.c.head) there
