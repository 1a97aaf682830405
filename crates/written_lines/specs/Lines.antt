-- The lines of a text, section by section.
use Rattle.std.specs.Prelude.{ℕ, suc, List, [], ◌∷◌, ◌++◌}
use Rattle.program.specs.Program.{Clause}
use Rattle.text.specs.Decimal.{decimal}
use Rattle.text_lines.specs.Keyword.{clause}
use Rattle.written_lines.specs.Tokens.{symbol_token, atoms_tokens, line}

-- the lines of a section from number i on: the keyword, and the fields of what a line says
abbrev pub section : {A : Type 0} → List ℕ → (ℕ → A → List (List ℕ)) → ℕ → List A → List ℕ
section keyword fields i [] = []
section keyword fields i (a ∷ rest) = line keyword (fields i a) ++ section keyword fields (suc i) rest

-- "(name, arity)", of the symbol with number i
abbrev pub declaration_fields : List ℕ → ℕ → ℕ → List (List ℕ)
declaration_fields names i arity = symbol_token names i ∷ decimal arity ∷ []

-- the declarations of one kind, whose first name has number i
abbrev pub declarations : List ℕ → List ℕ → ℕ → List ℕ → List ℕ
declarations keyword names i arities = section keyword (declaration_fields names) i arities

-- "A clause or query line has one token a cell.", whatever its number
abbrev pub clause_fields : List ℕ → ℕ → ℕ → Clause → List (List ℕ)
clause_fields names predicates n c = atoms_tokens names predicates (c.head ∷ c.body)

abbrev pub clause_lines : List ℕ → ℕ → List Clause → List ℕ
clause_lines names predicates cs = section clause (clause_fields names predicates) 0 cs
