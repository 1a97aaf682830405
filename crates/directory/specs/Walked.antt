-- What the walks over the words leave in the directory. For the code alone: readers go by `Directory`.
use Rattle.std.specs.Prelude.{ℕ, ◌+◌, ◌-◌, ◌≤◌, ◌<◌, ◌≡◌, ◌↔◌, List, ◌++◌, length, get_or, take, drop}
use Rattle.terms.specs.Term.{Term, Occ}
use Rattle.terms.specs.Cells.{variables}
use Rattle.program.specs.Program.{Nth, Clause, Program, bodies}
use Rattle.program.specs.Within.{encode_atoms, encode_clauses}
use Rattle.directory.specs.Layout.{body_count, clause_count, functions_start, clauses_start, goal_start, goal_cells, goal_ground, clause_head, clause_cells, clause_first, clause_vars, body_start, body_cells, dir_words, predicates_start, max_shape_cells}
use Rattle.directory.specs.Directory.{StandsAt}

-- a body atom under its number
abbrev pub BodyIn : List ℕ → List ℕ → Term → ℕ → Type 0
BodyIn words dir A j = StandsAt words A (get_or dir (body_start + j) 0) (get_or dir (body_cells + j) 0)

-- the first i atoms are written from number j on, and the words from `at` on are still to come
pub record AtomsWritten (words : List ℕ) (atoms : List Term) (rest before dir : List ℕ) (j i at : ℕ) : Type 0 where
  pub size : length dir ≡ length before
  pub to_come : drop at words ≡ encode_atoms (drop i atoms) ++ rest
  pub within : at ≤ length words
  pub written : {x : ℕ} {A : Term} → Nth atoms x A → x < i → BodyIn words dir A (j + x)
  pub kept : (x : ℕ) → x < body_start + j → get_or dir x 0 ≡ get_or before x 0
  pub cells_kept : (x : ℕ) → x < j → get_or dir (body_cells + x) 0 ≡ get_or before (body_cells + x) 0

-- a clause's head under its number
pub record HeadIn (words dir : List ℕ) (c : Clause) (k : ℕ) : Type 0 where
  pub stands : StandsAt words c.head (get_or dir (clause_head + k) 0) (get_or dir (clause_cells + k) 0)
  pub head_variables : (v : ℕ) → Occ v c.head ↔ (v < get_or dir (clause_vars + k) 0)
  pub few : get_or dir (clause_vars + k) 0 ≤ variables

-- clause c is written under number k, and the words from `at` on are still to come
pub record ClauseWritten (words : List ℕ) (c : Clause) (rest before dir : List ℕ) (k at : ℕ) : Type 0 where
  pub size : length dir ≡ length before
  pub to_come : drop at words ≡ rest
  pub within : at ≤ length words
  pub head : HeadIn words dir c k
  pub first_next : get_or dir (clause_first + (k + 1)) 0 ≡ get_or before (clause_first + k) 0 + length c.body
  pub written : {x : ℕ} {A : Term} → Nth c.body x A → BodyIn words dir A (get_or before (clause_first + k) 0 + x)
  pub heads_kept : (x : ℕ) → x < k → get_or dir (clause_head + x) 0 ≡ get_or before (clause_head + x) 0
  pub cells_kept : (x : ℕ) → x < k → get_or dir (clause_cells + x) 0 ≡ get_or before (clause_cells + x) 0
  pub variables_kept : (x : ℕ) → x < k → get_or dir (clause_vars + x) 0 ≡ get_or before (clause_vars + x) 0
  pub firsts_kept : (x : ℕ) → x ≤ k → get_or dir (clause_first + x) 0 ≡ get_or before (clause_first + x) 0
  pub starts_kept : (x : ℕ) → x < get_or before (clause_first + k) 0 → get_or dir (body_start + x) 0 ≡ get_or before (body_start + x) 0
  pub body_cells_kept : (x : ℕ) → x < get_or before (clause_first + k) 0 → get_or dir (body_cells + x) 0 ≡ get_or before (body_cells + x) 0
  pub kept : (x : ℕ) → x < clause_head → get_or dir x 0 ≡ get_or before x 0

-- the first k clauses are written, and the words from `at` on are still to come
pub record ClausesWritten (words : List ℕ) (clauses : List Clause) (rest before dir : List ℕ) (k at : ℕ) : Type 0 where
  pub size : length dir ≡ length before
  pub to_come : drop at words ≡ encode_clauses (drop k clauses) ++ rest
  pub within : at ≤ length words
  pub heads : {x : ℕ} {c : Clause} → Nth clauses x c → x < k → HeadIn words dir c x
  pub firsts : (x : ℕ) → x ≤ k → get_or dir (clause_first + x) 0 ≡ length (bodies (take x clauses))
  pub written : {x : ℕ} {A : Term} → Nth (bodies (take k clauses)) x A → BodyIn words dir A x
  pub kept : (x : ℕ) → x < clause_head → get_or dir x 0 ≡ get_or before x 0

-- the goal is written, and nothing else
pub record GoalWritten (words : List ℕ) (goal : Term) (grounded : ℕ) (before dir : List ℕ) : Type 0 where
  pub stands : StandsAt words goal (get_or dir goal_start 0) (get_or dir goal_cells 0)
  pub ground_is : get_or dir goal_ground 0 ≡ grounded
  pub kept : (x : ℕ) → goal_ground < x → get_or dir x 0 ≡ get_or before x 0

-- where everything stands in the words; the lists and the shapes are still to come
pub record Placed (words : List ℕ) (p : Program) (dir : List ℕ) : Type 0 where
  pub size : length dir ≡ dir_words
  pub words_most : length words ≤ max_shape_cells
  pub functions_in : (predicates_start ≤ get_or dir functions_start 0) × (get_or dir functions_start 0 ≤ get_or dir clauses_start 0) × (get_or dir clauses_start 0 ≤ length words)
  pub predicates_are : take (get_or dir functions_start 0 - predicates_start) (drop predicates_start words) ≡ p.predicates
  pub functions_are : take (get_or dir clauses_start 0 - get_or dir functions_start 0) (drop (get_or dir functions_start 0) words) ≡ p.functions
  pub goal_stands : StandsAt words p.goal (get_or dir goal_start 0) (get_or dir goal_cells 0)
  pub goal_ground_law : get_or dir goal_ground 0 ≡ p.grounded
  pub clause_count_law : get_or dir clause_count 0 ≡ length p.clauses
  pub body_count_law : get_or dir body_count 0 ≡ length (bodies p.clauses)
  pub heads : {x : ℕ} {c : Clause} → Nth p.clauses x c → HeadIn words dir c x
  pub firsts : (x : ℕ) → x ≤ length p.clauses → get_or dir (clause_first + x) 0 ≡ length (bodies (take x p.clauses))
  pub written : {x : ℕ} {A : Term} → Nth (bodies p.clauses) x A → BodyIn words dir A x
