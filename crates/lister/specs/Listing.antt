-- `listing_of`: the listing of a program's table, line by line. "Tabs and LFs are as in the text."
use Rattle.std.specs.Prelude.{ℕ, suc, List, [], ◌∷◌, ◌++◌, length}
use Rattle.terms.specs.Term.{Term}
use Rattle.program.specs.Program.{Program}
use Rattle.program.specs.Shapes.{shapes}
use Rattle.table.specs.Table.{Entry}
use Rattle.text.specs.Decimal.{decimal}
use Rattle.written_lines.specs.Tokens.{line}
use Rattle.listing_lines.specs.Lines.{shape_line, row_line}

-- the words that the first and the last line begin with: `modes`, `end`
abbrev pub modes_word : List ℕ
modes_word = 109 ∷ 111 ∷ 100 ∷ 101 ∷ 115 ∷ []

abbrev pub end_word : List ℕ
end_word = 101 ∷ 110 ∷ 100 ∷ []

-- "The first line is the listing's version."
abbrev pub version : ℕ
version = 1

-- the lines of the shapes from number s on
abbrev pub shape_lines : List ℕ → ℕ → ℕ → List Term → List ℕ
shape_lines names predicates s [] = []
shape_lines names predicates s (S ∷ Ss) = shape_line names predicates s S ++ shape_lines names predicates (suc s) Ss

abbrev pub row_lines : Program → List Entry → List ℕ
row_lines p [] = []
row_lines p (e ∷ entries) = row_line p e.round e.row ++ row_lines p entries

-- "`end` has the row count."
abbrev pub listing_of : Program → List ℕ → List Entry → List ℕ
listing_of p names entries =
    line modes_word (decimal version ∷ [])
    ++ shape_lines names (length p.predicates) 0 (shapes p)
    ++ row_lines p entries
    ++ line end_word (decimal (length entries) ∷ [])
