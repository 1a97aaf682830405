-- The tokens and lines that a program is written in.
use Rattle.std.specs.Prelude.{ℕ, ◌+◌, ◌-◌, cond, List, [], ◌∷◌, ◌++◌, map, get_or, eqb, ltb}
use Rattle.terms.specs.Term.{Term}
use Rattle.terms.specs.Cells.{enc, first_variable}
use Rattle.program.specs.Limits.{ground_mode}
use Rattle.text.specs.Line.{up_to, tab, line_feed}
use Rattle.text.specs.Token.{upper_v, upper_g}
use Rattle.text.specs.Decimal.{decimal}
use Rattle.text.specs.Name.{entry}

-- the name of which these are the 16 bytes: those before the first zero
abbrev pub name_in : List ℕ → List ℕ
name_in e = up_to 0 e

abbrev pub symbol_token : List ℕ → ℕ → List ℕ
symbol_token names n = name_in (entry names n)

-- "Variables are `V0` to `V15`; in the query `G` instead of `V` marks ground."
abbrev pub variable_token : List ℕ → ℕ → List ℕ
variable_token modes v = cond (eqb (get_or modes v 0) ground_mode) upper_g upper_v ∷ decimal v

abbrev pub argument_token : List ℕ → ℕ → List ℕ → ℕ → List ℕ
argument_token names predicates modes w =
    cond (ltb w first_variable) (symbol_token names (predicates + w)) (variable_token modes (w - first_variable))

-- "A clause or query line has one token a cell."
abbrev pub atom_tokens : List ℕ → ℕ → List ℕ → List ℕ → List (List ℕ)
atom_tokens names predicates modes [] = []
atom_tokens names predicates modes (w ∷ ws) = symbol_token names w ∷ map (argument_token names predicates modes) ws

abbrev pub atoms_tokens : List ℕ → ℕ → List Term → List (List ℕ)
atoms_tokens names predicates [] = []
atoms_tokens names predicates (a ∷ as') = atom_tokens names predicates [] (enc a) ++ atoms_tokens names predicates as'

-- the fields behind the first, each behind a tab
abbrev pub behind_tabs : List (List ℕ) → List ℕ
behind_tabs [] = []
behind_tabs (s ∷ ss) = tab ∷ s ++ behind_tabs ss

-- "Each line ends in LF; fields are parted by one tab."
abbrev pub line : List ℕ → List (List ℕ) → List ℕ
line keyword ss = keyword ++ behind_tabs ss ++ line_feed ∷ []
