-- Where each part of a directory begins. The names are those of src/layout.rt.
use Rattle.std.specs.Prelude.{ℕ, ◌+◌}

-- single entries: how many body atoms and clauses; where the functions' arities and the clauses begin in the words; the goal
abbrev pub body_count : ℕ
body_count = 0

abbrev pub clause_count : ℕ
clause_count = 1

abbrev pub functions_start : ℕ
functions_start = 2

abbrev pub clauses_start : ℕ
clauses_start = 3

abbrev pub goal_start : ℕ
goal_start = 4

abbrev pub goal_cells : ℕ
goal_cells = 5

abbrev pub goal_ground : ℕ
goal_ground = 6

-- an entry for each clause: the head's first word and its cells, the number of the first body atom (and the total behind the last clause), the
-- head's variables
abbrev pub clause_head : ℕ
clause_head = 8

abbrev pub clause_cells : ℕ
clause_cells = 72

abbrev pub clause_first : ℕ
clause_first = 136

abbrev pub clause_vars : ℕ
clause_vars = 201

-- an entry for each body atom, in program order: its first word, its cells, the mask of the list of its place, its shape's number
abbrev pub body_start : ℕ
body_start = 265

abbrev pub body_cells : ℕ
body_cells = 1289

abbrev pub body_list : ℕ
body_list = 2313

abbrev pub body_shape : ℕ
body_shape = 3337

-- how many shapes; for each where its cells begin (and the total behind the last), and its variables
abbrev pub shape_count : ℕ
shape_count = 4361

abbrev pub shape_start : ℕ
shape_start = 4362

abbrev pub shape_vars : ℕ
shape_vars = 5388

-- the link to the first shape of each predicate
abbrev pub predicate_shape : ℕ
predicate_shape = 6413

-- for each shape the link to the next of its predicate
abbrev pub shape_next : ℕ
shape_next = 6477

-- the cells of the shapes, one behind the other
abbrev pub shape_cells : ℕ
shape_cells = 7502

-- the shapes have at most so many cells
abbrev pub max_shape_cells : ℕ
max_shape_cells = 2048

abbrev pub dir_words : ℕ
dir_words = shape_cells + max_shape_cells

-- how many words stand before the predicates' arities: the three counts
abbrev pub predicates_start : ℕ
predicates_start = 3
