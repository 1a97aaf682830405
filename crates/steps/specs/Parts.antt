-- The parts of the words and of the directory in which a shape's cells and the functions' arities stand.
use Rattle.std.specs.Prelude.{ℕ, ◌+◌, ◌≤◌, ◌<◌, ◌≡◌, List, length, get_or}
use Rattle.program.specs.Lists.{between}
use Rattle.program.specs.Limits.{max_shapes}
use Rattle.directory.specs.Layout.{predicates_start, functions_start, clauses_start, shape_start, shape_cells, dir_words}

-- the cells of a shape, and that they stand in the directory
abbrev pub shape_run : List ℕ → ℕ → List ℕ
shape_run dir shape = between dir (shape_cells + get_or dir (shape_start + shape) 0) (shape_cells + get_or dir (shape_start + shape + 1) 0)

pub record ShapeIn (dir : List ℕ) (shape : ℕ) : Type 0 where
  pub few : shape < max_shapes
  pub size : length dir ≡ dir_words
  pub ordered : get_or dir (shape_start + shape) 0 ≤ get_or dir (shape_start + shape + 1) 0
  pub within : shape_cells + get_or dir (shape_start + shape + 1) 0 ≤ length dir

-- the arities of the functions
abbrev pub functions_run : List ℕ → List ℕ → List ℕ
functions_run words dir = between words (get_or dir functions_start 0) (get_or dir clauses_start 0)

-- the cells of a shape and of an atom of the words, and the arities of the predicates and of the functions
pub record PairOf (words dir : List ℕ) (shape start cells : ℕ) (first second predicates functions : List ℕ) : Type 0 where
  pub first_is : first ≡ shape_run dir shape
  pub second_is : second ≡ between words start (start + cells)
  pub predicates_are : predicates ≡ between words predicates_start (get_or dir functions_start 0)
  pub functions_are : functions ≡ functions_run words dir
