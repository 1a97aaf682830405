-- The directory of a program: where its atoms stand in the words, its shapes and their numbers, the lists of its places.
use Rattle.std.specs.Prelude.{ℕ, suc, ◌+◌, ◌-◌, ◌≤◌, ◌<◌, ◌≡◌, ◌↔◌, List, length, get_or, take, drop}
use Rattle.terms.specs.Term.{Term, var, app, Occ}
use Rattle.terms.specs.Cells.{variables, atom_cells, enc}
use Rattle.terms.specs.Mask.{Marks}
use Rattle.program.specs.Program.{Nth, Clause, Program, bodies}
use Rattle.program.specs.Shapes.{shapes, shape_number, Listed}
use Rattle.program.specs.Limits.{max_bodies, max_shapes}
use Rattle.directory.specs.Layout.{shape_count, body_count, clause_count, functions_start, clauses_start, goal_start, goal_cells, goal_ground, body_start, body_cells, body_shape, body_list, clause_head, clause_cells, clause_first, clause_vars, shape_start, shape_vars, shape_next, predicate_shape, shape_cells, dir_words, predicates_start, max_shape_cells}

-- the term's cells stand in the words, so many from the start on
pub record StandsAt (words : List ℕ) (t : Term) (start cells : ℕ) : Type 0 where
  pub run : take cells (drop start words) ≡ enc t
  pub fits : start + cells ≤ length words
  pub short : cells ≤ atom_cells

-- what the directory says of body atom A, at place i of clause c, under its number j
pub record BodyAt (words : List ℕ) (p : Program) (dir : List ℕ) (c : Clause) (i : ℕ) (A : Term) (j : ℕ) : Type 0 where
  pub within : j < get_or dir body_count 0
  pub stands : StandsAt words A (get_or dir (body_start + j) 0) (get_or dir (body_cells + j) 0)
  pub shape : get_or dir (body_shape + j) 0 ≡ shape_number p A
  pub list : Marks (Listed c i) (get_or dir (body_list + j) 0)

-- what it says of clause c, under its number k from 0: "variables are numbered from 0 by first appearance", so those of the head are the first ones
pub record ClauseAt (words dir : List ℕ) (c : Clause) (k : ℕ) : Type 0 where
  pub stands : StandsAt words c.head (get_or dir (clause_head + k) 0) (get_or dir (clause_cells + k) 0)
  pub head_variables : (v : ℕ) → Occ v c.head ↔ (v < get_or dir (clause_vars + k) 0)
  pub few : get_or dir (clause_vars + k) 0 ≤ variables
  pub first_next : get_or dir (clause_first + suc k) 0 ≡ get_or dir (clause_first + k) 0 + length c.body

-- the predicate of an atom
abbrev pub predicate_of : Term → ℕ
predicate_of (var v) = 0
predicate_of (app f ts) = f

-- the link is 1 + the least number, from a number on, of a shape with predicate q, or 0 where there is none
pub record Link (ss : List Term) (q from link : ℕ) : Type 0 where
  pub none_before : (s : ℕ) (S : Term) → Nth ss s S → predicate_of S ≡ q → from ≤ s → (0 < link) × (link ≤ s + 1)
  pub named : 0 < link → (from ≤ link - 1) × (S : Term) × Nth ss (link - 1) S × (predicate_of S ≡ q)

-- what it says of shape S, under its number s
pub record ShapeAt (ss : List Term) (dir : List ℕ) (S : Term) (s : ℕ) : Type 0 where
  pub stands : StandsAt dir S (shape_cells + get_or dir (shape_start + s) 0) (get_or dir (shape_start + suc s) 0 - get_or dir (shape_start + s) 0)
  pub ordered : get_or dir (shape_start + s) 0 ≤ get_or dir (shape_start + suc s) 0
  pub cells_most : get_or dir (shape_start + suc s) 0 ≤ max_shape_cells
  pub shape_variables : (v : ℕ) → Occ v S ↔ (v < get_or dir (shape_vars + s) 0)
  pub few : get_or dir (shape_vars + s) 0 ≤ variables
  pub next : Link ss (predicate_of S) (suc s) (get_or dir (shape_next + s) 0)

-- everything, for the words of an accepted program
pub record Directory (words : List ℕ) (p : Program) (dir : List ℕ) : Type 0 where
  pub size : length dir ≡ dir_words
  pub words_most : length words ≤ max_shape_cells
  -- the declarations
  pub functions_in : (predicates_start ≤ get_or dir functions_start 0) × (get_or dir functions_start 0 ≤ get_or dir clauses_start 0) × (get_or dir clauses_start 0 ≤ length words)
  pub predicates_are : take (get_or dir functions_start 0 - predicates_start) (drop predicates_start words) ≡ p.predicates
  pub functions_are : take (get_or dir clauses_start 0 - get_or dir functions_start 0) (drop (get_or dir functions_start 0) words) ≡ p.functions
  -- the goal
  pub goal_stands : StandsAt words p.goal (get_or dir goal_start 0) (get_or dir goal_cells 0)
  pub goal_ground_law : get_or dir goal_ground 0 ≡ p.grounded
  -- the clauses and their body atoms
  pub clause_count_law : get_or dir clause_count 0 ≡ length p.clauses
  pub body_count_law : get_or dir body_count 0 ≡ length (bodies p.clauses)
  pub bodies_most : get_or dir body_count 0 ≤ max_bodies
  pub first_zero : get_or dir (clause_first + 0) 0 ≡ 0
  pub first_last : get_or dir (clause_first + length p.clauses) 0 ≡ get_or dir body_count 0
  pub clause : {k : ℕ} {c : Clause} → Nth p.clauses k c → ClauseAt words dir c k
  pub body : {k i : ℕ} {c : Clause} {A : Term} → Nth p.clauses k c → Nth c.body i A
      → BodyAt words p dir c i A (get_or dir (clause_first + k) 0 + i)
  pub each_body : (j : ℕ) → j < get_or dir body_count 0
      → (k : ℕ) × (i : ℕ) × (c : Clause) × (A : Term) × Nth p.clauses k c × Nth c.body i A × (j ≡ get_or dir (clause_first + k) 0 + i)
  -- the shapes
  pub shape_count_law : get_or dir shape_count 0 ≡ length (shapes p)
  pub shapes_most : get_or dir shape_count 0 ≤ max_shapes
  pub start_zero : get_or dir (shape_start + 0) 0 ≡ 0
  pub shape : {s : ℕ} {S : Term} → Nth (shapes p) s S → ShapeAt (shapes p) dir S s
  pub first_shape : (q : ℕ) → q < length p.predicates → Link (shapes p) q 0 (get_or dir (predicate_shape + q) 0)
