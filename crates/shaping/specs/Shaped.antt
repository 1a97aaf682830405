-- The shapes found so far, and the search for one more. For the code alone: readers go by `Directory`.
use Rattle.std.specs.Prelude.{ℕ, suc, ◌+◌, ◌≤◌, ◌<◌, ◌≡◌, ◌⊎◌, length, get_or, set, Result, Ok, Err}
use mathlib.Core.List.{List, Memᴰ}
use Rattle.terms.specs.Term.{Term, same_term}
use Rattle.terms.specs.Cells.{Atom}
use Rattle.program.specs.Limits.{max_declared, max_shapes}
use Rattle.program.specs.Program.{Nth}
use Rattle.program.specs.Shapes.{place, with, shape_of}
use Rattle.directory.specs.Layout.{shape_start, shape_vars, shape_next, predicate_shape, dir_words, max_shape_cells}
use Rattle.directory.specs.Directory.{StandsAt, predicate_of, Link, ShapeAt}

-- the directory has these shapes
pub record Shaped (predicates functions : List ℕ) (ss : List Term) (dir : List ℕ) : Type 0 where
  pub size : length dir ≡ dir_words
  pub declared : length predicates ≤ max_declared
  pub many : length ss ≤ max_shapes
  pub start_zero : get_or dir (shape_start + 0) 0 ≡ 0
  pub total : get_or dir (shape_start + length ss) 0 ≤ max_shape_cells
  pub shape : {s : ℕ} {S : Term} → Nth ss s S → ShapeAt ss dir S s
  pub atom : {s : ℕ} {S : Term} → Nth ss s S → Atom predicates functions S
  pub first : (q : ℕ) → q < max_declared → Link ss q 0 (get_or dir (predicate_shape + q) 0)

-- a shape whose cells stand at a place behind the others, and whose number is sought
pub record Sought (dir : List ℕ) (q cells to : ℕ) : Type 0 where
  pub predicates : List ℕ
  pub functions : List ℕ
  pub ss : List Term
  pub shaped : Shaped predicates functions ss dir
  pub S : Term
  pub sound : Atom predicates functions S
  pub is_q : predicate_of S ≡ q
  pub stands : StandsAt dir S to cells

-- the entry that has the link to the first shape with predicate q from a number on
abbrev pub Slot : List Term → ℕ → ℕ → ℕ → Type 0
Slot ss q slot from =
    ((slot ≡ predicate_shape + q) × (from ≡ 0))
    ⊎ ((t : ℕ) × (T : Term) × (slot ≡ shape_next + t) × (from ≡ suc t) × Nth ss t T × (predicate_of T ≡ q))

-- the search has passed all shapes before a number, and goes on with the link in an entry
pub record Seeking (ss : List Term) (S : Term) (q slot link : ℕ) : Type 0 where
  pub from : ℕ
  pub slot_is : Slot ss q slot from
  pub link_is : Link ss q from link
  pub passed : (r : ℕ) (R : Term) → Nth ss r R → r < from → R ≡ S → ⊥

-- what is found: the number of the shape; or, where it is new, the entry for the link to it
abbrev pub FoundAs : List Term → Term → ℕ → Result ℕ ℕ → Type 0
FoundAs ss S q (Ok s) = (s < length ss) × (place same_term S ss ≡ s)
FoundAs ss S q (Err slot) = (Memᴰ S ss → ⊥) × Seeking ss S q slot 0

-- the entries of one more shape: the link to it, where its cells end, its variables, no next one
abbrev pub added_to : List ℕ → ℕ → ℕ → ℕ → ℕ → List ℕ
added_to dir slot count vars end = set (set (set (set dir slot (count + 1)) (shape_start + (count + 1)) end) (shape_vars + count) vars) (shape_next + count) 0

-- an atom of the program whose shape's number is asked for, where so many shapes are found
pub record Asked (words dir : List ℕ) (start cells count : ℕ) : Type 0 where
  pub predicates : List ℕ
  pub functions : List ℕ
  pub ss : List Term
  pub shaped : Shaped predicates functions ss dir
  pub counted : count ≡ length ss
  pub more : count < max_shapes
  pub atom : Term
  pub sound : Atom predicates functions atom
  pub stands : StandsAt words atom start cells
  pub room : get_or dir (shape_start + count) 0 + cells ≤ max_shape_cells

-- its number, and the shapes with it
pub record Answered (predicates functions : List ℕ) (ss : List Term) (atom : Term) (cells : ℕ) (before dir : List ℕ) (r : ℕ) : Type 0 where
  pub number : r ≡ place same_term (shape_of atom) ss
  pub shaped : Shaped predicates functions (with same_term ss (shape_of atom)) dir
  pub total : get_or dir (shape_start + length (with same_term ss (shape_of atom))) 0 ≤ get_or before (shape_start + length ss) 0 + cells
  pub kept : (x : ℕ) → x < shape_start → get_or dir x 0 ≡ get_or before x 0
