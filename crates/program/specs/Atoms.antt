-- Atoms in an encoded program: their faults cell by cell, and the terms that they say.
use Rattle.std.specs.Prelude.{ℕ, zero, suc, ◌+◌, ◌-◌, List, [], ◌∷◌, length, get_or, ltb}
use Rattle.terms.specs.Term.{Term, Terms, var, app, nil, cons}
use Rattle.terms.specs.Cells.{first_variable, atom_cells, take_terms, drop_terms, pick}
use Rattle.program.specs.Limits.{max_variable}
use Rattle.program.specs.Reply.{too_soon, undeclared, bad_variable, long_atom}
use Rattle.program.specs.Reading.{Decoded, wrong, right, next}

-- what a cell of an atom comes to
pub data Cell : Type 0 where
  -- the number of its fault
  Bad : ℕ → Cell
  -- how many terms it asks for, and how many variables are met after it
  Opens : ℕ → ℕ → Cell

-- how many variables are met after variable v, where so many were met before
abbrev pub meet : ℕ → ℕ → ℕ
meet seen v = pick (ltb v seen) seen (suc v)

-- "a variable is above 15 or skips a number"
abbrev pub variable_of : ℕ → ℕ → Cell
variable_of seen v = pick (ltb max_variable v) (Bad bad_variable) (pick (ltb seen v) (Bad bad_variable) (Opens 0 (meet seen v)))

-- "A term is a function number below F with its arguments, or a variable, 32768 + v."
abbrev pub symbol_of : List ℕ → ℕ → ℕ → Cell
symbol_of functions seen w =
    pick (ltb w first_variable)
    (pick (ltb w (length functions)) (Opens (get_or functions w 0) seen) (Bad undeclared))
    (variable_of seen (w - first_variable))

-- A cell of an atom, of which so many cells were taken before it: how many terms it asks for, and the variables met after it.
-- "At one place the order is .. 5, 3, 4."
abbrev pub cell_of : List ℕ → ℕ → ℕ → ℕ → Cell
cell_of functions taken seen w = pick (ltb taken atom_cells) (symbol_of functions seen w) (Bad long_atom)

-- the cell's term, with its arguments from the terms after it
abbrev pub build : ℕ → ℕ → Terms → Terms
build w arity ts =
    pick (ltb w first_variable) (cons (app w (take_terms arity ts)) (drop_terms arity ts)) (cons (var (w - first_variable)) ts)

-- what a cell opens, given how to read so many terms after it with so many variables met
abbrev pub opened : Cell → ℕ → List ℕ → (ℕ → ℕ → Decoded (Terms × ℕ)) → Decoded (Terms × ℕ)
opened (Bad number) w ws read = wrong number (w ∷ ws)
opened (Opens arity seen) w ws read = next (read arity seen) (λ r rest. right (build w arity r.0, r.1) rest)

-- so many terms, of an atom of which so many cells were taken, with so many variables met; the terms and the variables met after them
unfoldable pub terms : List ℕ → List ℕ → ℕ → ℕ → ℕ → Decoded (Terms × ℕ)
terms functions [] zero taken seen = right (nil, seen) []
terms functions [] (suc n) taken seen = wrong too_soon []
terms functions (w ∷ ws) zero taken seen = right (nil, seen) (w ∷ ws)
terms functions (w ∷ ws) (suc n) taken seen =
    opened (cell_of functions taken seen w) w ws (λ arity met. terms functions ws (arity + n) (suc taken) met)

-- "Atoms are in prefix order: a predicate number below P, then its argument terms."
unfoldable pub atom : List ℕ → List ℕ → ℕ → List ℕ → Decoded (Term × ℕ)
atom predicates functions seen [] = wrong too_soon []
atom predicates functions seen (w ∷ ws) =
    pick (ltb w (length predicates))
    (next (terms functions ws (get_or predicates w 0) 1 seen) (λ r rest. right (app w r.0, r.1) rest))
    (wrong undeclared (w ∷ ws))

-- "In each clause, and in the goal, variables are numbered from 0 by first appearance": the variables met go from atom to atom
unfoldable pub atoms : List ℕ → List ℕ → ℕ → ℕ → List ℕ → Decoded (List Term × ℕ)
atoms predicates functions zero seen ws = right ([], seen) ws
atoms predicates functions (suc n) seen ws =
    next (atom predicates functions seen ws)
    (λ a rest. next (atoms predicates functions n a.1 rest) (λ r rest'. right (a.0 ∷ r.0, r.1) rest'))
