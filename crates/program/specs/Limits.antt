-- The limits of an encoded program, of a text and of a table.
use Rattle.std.specs.Prelude.{ℕ, ◌+◌, ◌*◌}

-- "A lent slice of 16-bit words, at most 2,048"
abbrev pub max_words : ℕ
max_words = 2048

-- a scenario text: "At most 40,960 bytes."
abbrev pub max_bytes : ℕ
max_bytes = 40960

-- "predicate count P (1 to 64), function count F (0 to 64), clause count C (0 to 64)"
abbrev pub min_predicates : ℕ
min_predicates = 1

abbrev pub max_declared : ℕ
max_declared = 64

-- "P predicate arities, then F function arities, each 0 to 8"
abbrev pub max_arity : ℕ
max_arity = 8

-- "a body length m (0 to 16)"
abbrev pub max_body : ℕ
max_body = 16

-- "v is at most 15"
abbrev pub max_variable : ℕ
max_variable = 15

-- masks of variables are below this
abbrev pub masks : ℕ
masks = 65536

-- so many body atoms, and with the goal so many shapes
abbrev pub max_bodies : ℕ
max_bodies = max_declared * max_body

abbrev pub max_shapes : ℕ
max_shapes = max_bodies + 1

-- "k modes (0 any, 1 ground)"
abbrev pub any_mode : ℕ
any_mode = 0

abbrev pub ground_mode : ℕ
ground_mode = 1

-- "A row is five words: round, kind, a, b, mask."
abbrev pub row_size : ℕ
row_size = 5

-- "The room in rows is the length over five, rounded down, but at most 4,096."
abbrev pub max_rows : ℕ
max_rows = 4096
