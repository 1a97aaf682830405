-- The line of a shape and of a row in a listing. "Tabs and LFs are as in the text."
use Rattle.std.specs.Prelude.{ℕ, ◌-◌, List, [], ◌∷◌, ◌++◌, get_or}
use Rattle.terms.specs.Term.{Term, var}
use Rattle.terms.specs.Cells.{enc}
use Rattle.program.specs.Program.{Clause, Program}
use Rattle.program.specs.Shapes.{shapes}
use Rattle.table.specs.Rules.{Row, call, cont, solution}
use Rattle.text.specs.Decimal.{decimal}
use Rattle.written_lines.specs.Tokens.{atom_tokens, line}
use Rattle.listing_lines.specs.Letters.{occurs_in, is_listed, letters_of}

-- the words that lines begin with: `shape`, `call`, `cont`, `sol`
abbrev pub shape_word : List ℕ
shape_word = 115 ∷ 104 ∷ 97 ∷ 112 ∷ 101 ∷ []

abbrev pub call_word : List ℕ
call_word = 99 ∷ 97 ∷ 108 ∷ 108 ∷ []

abbrev pub cont_word : List ℕ
cont_word = 99 ∷ 111 ∷ 110 ∷ 116 ∷ []

abbrev pub sol_word : List ℕ
sol_word = 115 ∷ 111 ∷ 108 ∷ []

abbrev pub dot : ℕ
dot = 46

-- "Shape lines, one for each shape: number, cells."
abbrev pub shape_line : List ℕ → ℕ → ℕ → Term → List ℕ
shape_line names predicates s S = line shape_word (decimal s ∷ atom_tokens names predicates [] (enc S))

-- the shape and the clause with a number, clauses from 1 on; every row has one
abbrev pub shape_at : Program → ℕ → Term
shape_at p s = get_or (shapes p) s (var 0)

abbrev pub clause_at : Program → ℕ → Clause
clause_at p n = get_or p.clauses (n - 1) (record { head = var 0; body = [] })

abbrev pub shape_row : Program → List ℕ → ℕ → ℕ → ℕ → List ℕ
shape_row p kind round s mask = line kind (decimal round ∷ decimal s ∷ letters_of (occurs_in (shape_at p s)) mask ∷ [])

abbrev pub place_row : Program → ℕ → ℕ → ℕ → ℕ → List ℕ
place_row p round n i mask =
    line cont_word (decimal round ∷ (decimal n ++ dot ∷ decimal i) ∷ letters_of (is_listed (clause_at p n) (i - 1)) mask ∷ [])

-- "Row lines: kind, round, shape (or clause.place), then `g` or `a` for each variable of the shape (or list) in order"
abbrev pub row_line : Program → ℕ → Row ℕ → List ℕ
row_line p round (call s mask) = shape_row p call_word round s mask
row_line p round (cont n i mask) = place_row p round n i mask
row_line p round (solution s mask) = shape_row p sol_word round s mask
