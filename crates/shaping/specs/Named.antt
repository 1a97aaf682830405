-- The shapes of the goal and of the body atoms in program order, while they are found. For the code alone.
use Rattle.std.specs.Prelude.{ℕ, ◌+◌, ◌≤◌, ◌<◌, ◌≡◌, List, [], ◌∷◌, map, length, get_or, take}
use Rattle.terms.specs.Term.{Term}
use Rattle.terms.specs.Cells.{enc}
use Rattle.program.specs.Program.{Nth, Program, bodies}
use Rattle.program.specs.Within.{encode_atoms}
use Rattle.program.specs.Shapes.{shape_of, distinct, shapes, shape_number}
use Rattle.directory.specs.Layout.{body_shape, shape_count, shape_start, predicate_shape}
use Rattle.shaping.specs.Shaped.{Shaped}

-- the shapes of the goal and of the first j body atoms
abbrev pub shapes_up_to : Program → ℕ → List Term
shapes_up_to p j = distinct (shape_of p.goal ∷ []) (map shape_of (take j (bodies p.clauses)))

-- they are found, and the first j body atoms have their shapes' numbers
pub record ShapesFound (p : Program) (before dir : List ℕ) (j count : ℕ) : Type 0 where
  pub counted : count ≡ length (shapes_up_to p j)
  pub few : count ≤ j + 1
  pub shaped : Shaped p.predicates p.functions (shapes_up_to p j) dir
  pub total : get_or dir (shape_start + length (shapes_up_to p j)) 0 ≤ length (enc p.goal) + length (encode_atoms (take j (bodies p.clauses)))
  pub numbers : {x : ℕ} {A : Term} → Nth (bodies p.clauses) x A → x < j → get_or dir (body_shape + x) 0 ≡ shape_number p A
  pub kept : (x : ℕ) → x < body_shape → get_or dir x 0 ≡ get_or before x 0

-- no links: no shapes yet
pub record Cleared (before dir : List ℕ) (q : ℕ) : Type 0 where
  pub size : length dir ≡ length before
  pub none : (x : ℕ) → x < q → get_or dir (predicate_shape + x) 0 ≡ 0
  pub kept : (x : ℕ) → x < predicate_shape → get_or dir x 0 ≡ get_or before x 0

-- all are found and counted
pub record ShapesNamed (p : Program) (before dir : List ℕ) : Type 0 where
  pub shaped : Shaped p.predicates p.functions (shapes p) dir
  pub counted : get_or dir shape_count 0 ≡ length (shapes p)
  pub numbers : {x : ℕ} {A : Term} → Nth (bodies p.clauses) x A → get_or dir (body_shape + x) 0 ≡ shape_number p A
  pub kept : (x : ℕ) → x < body_shape → get_or dir x 0 ≡ get_or before x 0
