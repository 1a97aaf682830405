-- What stands in the words from a place on: atoms, clauses, the goal. For the code alone.
use Rattle.std.specs.Prelude.{ℕ, ◌^◌, ◌<◌, ◌≡◌, List, ◌∷◌, ◌++◌, length, drop}
use Rattle.terms.specs.Term.{Term}
use Rattle.terms.specs.Cells.{enc, Atom}
use Rattle.program.specs.Program.{Clause}
use Rattle.program.specs.Within.{Each, after, Numbered, modes_of, encode_atoms, encode_clauses, WithinClause}

-- an atom's words from a place on
pub record AtomFrom (words : List ℕ) (at : ℕ) (predicates functions : List ℕ) : Type 0 where
  pub atom : Term
  pub rest : List ℕ
  pub cut : drop at words ≡ enc atom ++ rest
  pub sound : Atom predicates functions atom

-- the words of m atoms
pub record AtomsFrom (words : List ℕ) (at : ℕ) (predicates functions : List ℕ) (m : ℕ) : Type 0 where
  pub atoms : List Term
  pub rest : List ℕ
  pub cut : drop at words ≡ encode_atoms atoms ++ rest
  pub sound : Each (Atom predicates functions) atoms
  pub many : length atoms ≡ m

-- the words of a clause
pub record ClauseFrom (words : List ℕ) (at : ℕ) (predicates functions : List ℕ) : Type 0 where
  pub clause : Clause
  pub rest : List ℕ
  pub cut : drop at words ≡ length clause.body ∷ enc clause.head ++ (encode_atoms clause.body ++ rest)
  pub within : WithinClause predicates functions clause

-- the words of n clauses
pub record ClausesFrom (words : List ℕ) (at : ℕ) (predicates functions : List ℕ) (n : ℕ) : Type 0 where
  pub clauses : List Clause
  pub rest : List ℕ
  pub cut : drop at words ≡ encode_clauses clauses ++ rest
  pub within : Each (WithinClause predicates functions) clauses
  pub many : length clauses ≡ n

-- the goal's words: the atom, "its variable count k, then k modes"
pub record GoalFrom (words : List ℕ) (at : ℕ) (predicates functions : List ℕ) : Type 0 where
  pub goal : Term
  pub grounded : ℕ
  pub cut : drop at words ≡ enc goal ++ after 0 goal ∷ modes_of (after 0 goal) grounded
  pub sound : Atom predicates functions goal
  pub numbered : Numbered 0 goal
  pub marks : grounded < 2 ^ after 0 goal
