-- The cells of a clause or query line: "A clause or query line has one token a cell."
use Rattle.std.specs.Prelude.{ℕ, ◌+◌, ◌-◌, Bool, true, false, cond, ◌&&◌, Option, Some, None, List, [], ◌∷◌, ◌++◌, length, get_or, eqb, ltb, leb}
use Rattle.terms.specs.Cells.{first_variable, atom_cells}
use Rattle.program.specs.Limits.{max_body, max_variable, any_mode, ground_mode}
use Rattle.program.specs.Reply.{too_soon, out_of_range, undeclared, bad_variable, long_atom, follows, ill_formed, both_modes}
use Rattle.text.specs.Token.{token_of}
use Rattle.text.specs.Name.{padded, seek}
use Rattle.text.specs.declared.token.Token.{Token}
use Rattle.text.specs.declared.token.Token.TheVariants.{Name, Variable}
use Rattle.cells.specs.Symbols.{Symbols}
use Rattle.cells.specs.TextSoFar.{Read, wrong, right, next}

-- a line as far as it was read
pub record Row : Type 0 where
  -- terms that the atom still wants
  pub wanted : ℕ
  -- cells of the atom
  pub cells : ℕ
  pub atoms : ℕ
  -- how many variables were met, and the mode of each, by number
  pub variables : ℕ
  pub modes : List ℕ
  -- the cells of all atoms
  pub out : List ℕ

abbrev pub no_cells : Row
no_cells = record { wanted = 0; cells = 0; atoms = 0; variables = 0; modes = []; out = [] }

abbrev pub mode_of : Bool → ℕ
mode_of true = ground_mode
mode_of false = any_mode

-- what a token is at its place: a fault by its number; a symbol's cell, and how many arguments it wants; or a variable by its number, and whether it is ground
pub data Look : Type 0 where
  fault : ℕ → Look
  symbol : ℕ → ℕ → Look
  met : ℕ → Bool → Look

-- a symbol by its number among those from `from` to below `to`, and its arity; "the symbol is not declared"
abbrev pub symbol_at : List ℕ → ℕ → ℕ → ℕ → Look
symbol_at arities from to n = cond (ltb n to) (symbol (n - from) (get_or arities n 0)) (fault undeclared)

abbrev pub named_of : List ℕ → List ℕ → ℕ → ℕ → List ℕ → Look
named_of names arities from to s = symbol_at arities from to (seek names (padded s) from (to - from))

-- "a variable is above 15 or skips a number"; "a query variable is both `V` and `G`"
abbrev pub variable_at : ℕ → List ℕ → ℕ → Bool → Look
variable_at seen modes v grounded =
    cond (ltb max_variable v) (fault bad_variable)
    (cond (ltb seen v) (fault bad_variable)
    (cond (ltb v seen)
    (cond (eqb (get_or modes v 0) (mode_of grounded)) (met v grounded) (fault both_modes))
    (met v grounded)))

-- the first cell of an atom: a head and 16 body atoms at most; "an atom starts with no predicate"
abbrev pub start_of : Symbols → ℕ → List ℕ → Option Token → Look
start_of symbols atoms s None = fault ill_formed
start_of symbols atoms s (Some Name) =
    cond (ltb max_body atoms) (fault out_of_range) (named_of symbols.names symbols.arities 0 symbols.predicates s)
start_of symbols atoms s (Some (Variable grounded v)) = cond (ltb max_body atoms) (fault out_of_range) (fault undeclared)

-- a cell of an argument; "an atom reaches a 33rd cell"
abbrev pub argument_of : Symbols → Row → List ℕ → Option Token → Look
argument_of symbols r s None = fault ill_formed
argument_of symbols r s (Some Name) =
    cond (leb atom_cells r.cells) (fault long_atom)
    (named_of symbols.names symbols.arities symbols.predicates (symbols.predicates + symbols.functions) s)
argument_of symbols r s (Some (Variable grounded v)) = cond (leb atom_cells r.cells) (fault long_atom) (variable_at r.variables r.modes v grounded)

-- "At one place the order is 1, 11, 2, 5, 3, 4, 13."
abbrev pub look_of : Symbols → Bool → Row → List ℕ → Look
look_of symbols query r s = cond (eqb r.wanted 0) (start_of symbols r.atoms s (token_of query s)) (argument_of symbols r s (token_of query s))

-- the row with a symbol's cell
abbrev pub with_symbol : Row → ℕ → ℕ → Row
with_symbol r word arity =
    record {
      wanted = r.wanted - 1 + arity;
      cells = cond (eqb r.wanted 0) 1 (r.cells + 1);
      atoms = cond (eqb r.wanted 0) (r.atoms + 1) r.atoms;
      variables = r.variables;
      modes = r.modes;
      out = r.out ++ word ∷ [];
    }

-- the row with a variable's cell
abbrev pub with_variable : Row → ℕ → Bool → Row
with_variable r v grounded =
    record {
      wanted = r.wanted - 1;
      cells = r.cells + 1;
      atoms = r.atoms;
      variables = cond (ltb v r.variables) r.variables (r.variables + 1);
      modes = cond (ltb v r.variables) r.modes (r.modes ++ mode_of grounded ∷ []);
      out = r.out ++ (first_variable + v) ∷ [];
    }

abbrev pub taken_at : Row → ℕ → Look → Read Row
taken_at r at (fault number) = wrong number at
taken_at r at (symbol word arity) = right (with_symbol r word arity)
taken_at r at (met v grounded) = right (with_variable r v grounded)

-- an atom is complete, and no other has begun
abbrev pub complete : Row → Bool
complete r = eqb r.wanted 0 && ltb 0 r.atoms

-- The tokens behind the separator at `at`, a tab or the LF. "a text line's atom ends too soon: the LF";
-- "After the goal's last cell stands one LF; any other byte there, a tab too, gives 7."
abbrev pub cells_of : Symbols → Bool → Row → ℕ → List (List ℕ) → Read Row
cells_of symbols query r at [] = cond (complete r) (right r) (wrong too_soon at)
cells_of symbols query r at (s ∷ ss) =
    cond (query && complete r) (wrong follows at)
    (next (taken_at r (at + 1) (look_of symbols query r s)) (λ r'. cells_of symbols query r' (at + 1 + length s) ss))
