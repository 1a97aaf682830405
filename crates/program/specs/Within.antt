-- How a program is encoded, and the programs within the limits.
use Rattle.std.specs.Prelude.{ℕ, zero, suc, ◌≤◌, ◌<◌, ◌/◌, ◌%◌, ◌^◌, List, [], ◌∷◌, ◌++◌, length}
use Rattle.terms.specs.Term.{Term, Terms, var, app, nil, cons}
use Rattle.terms.specs.Cells.{enc, Atom}
use Rattle.program.specs.Limits.{max_words, min_predicates, max_declared, max_arity, max_body}
use Rattle.program.specs.Program.{Clause, Program}
use Rattle.program.specs.Atoms.{meet}

-- P holds of each of the list
pub data Each {A : Type 0} (P : A → Type 0) : List A → Type 0 where
  none : Each P []
  more : {a : A} {rest : List A} → P a → Each P rest → Each P (a ∷ rest)

-- how many variables are met after a term, where so many were met before
abbrev mutual
  pub after : ℕ → Term → ℕ
  after seen (var v) = meet seen v
  after seen (app f ts) = afters seen ts

  pub afters : ℕ → Terms → ℕ
  afters seen nil = seen
  afters seen (cons t ts) = afters (after seen t) ts

-- "variables are numbered from 0 by first appearance": none skips a number
abbrev mutual
  pub Numbered : ℕ → Term → Type 0
  Numbered seen (var v) = v ≤ seen
  Numbered seen (app f ts) = Numbereds seen ts

  pub Numbereds : ℕ → Terms → Type 0
  Numbereds seen nil = Unit {0}
  Numbereds seen (cons t ts) = Numbered seen t × Numbereds (after seen t) ts

-- the same of atoms one after another
abbrev pub NumberedAll : ℕ → List Term → Type 0
NumberedAll seen [] = Unit {0}
NumberedAll seen (t ∷ ts) = Numbered seen t × NumberedAll (after seen t) ts

-- so many modes of a mask, from that of variable 0 on
abbrev pub modes_of : ℕ → ℕ → List ℕ
modes_of zero mask = []
modes_of (suc k) mask = mask % 2 ∷ modes_of k (mask / 2)

abbrev pub encode_atoms : List Term → List ℕ
encode_atoms [] = []
encode_atoms (t ∷ ts) = enc t ++ encode_atoms ts

-- "C clauses: a body length m (0 to 16), the head atom, m body atoms"
abbrev pub encode_clauses : List Clause → List ℕ
encode_clauses [] = []
encode_clauses (c ∷ cs) = length c.body ∷ enc c.head ++ (encode_atoms c.body ++ encode_clauses cs)

-- "A lent slice of 16-bit words .. in this order: .."
unfoldable pub encode : Program → List ℕ
encode p =
    length p.predicates ∷ length p.functions ∷ length p.clauses
    ∷ p.predicates ++ (p.functions ++ (encode_clauses p.clauses
    ++ (enc p.goal ++ after 0 p.goal ∷ modes_of (after 0 p.goal) p.grounded)))

pub record WithinClause (predicates functions : List ℕ) (c : Clause) : Type 0 where
  pub body : length c.body ≤ max_body
  pub head_atom : Atom predicates functions c.head
  pub body_atoms : Each (Atom predicates functions) c.body
  pub numbered : NumberedAll 0 (c.head ∷ c.body)

pub record WithinLimits (p : Program) : Type 0 where
  pub some : min_predicates ≤ length p.predicates
  pub predicates_most : length p.predicates ≤ max_declared
  pub functions_most : length p.functions ≤ max_declared
  pub clauses_most : length p.clauses ≤ max_declared
  pub predicate_arities : Each (λ arity. arity ≤ max_arity) p.predicates
  pub function_arities : Each (λ arity. arity ≤ max_arity) p.functions
  pub clauses_within : Each (WithinClause p.predicates p.functions) p.clauses
  pub goal_atom : Atom p.predicates p.functions p.goal
  pub goal_numbered : Numbered 0 p.goal
  -- no mode but of the goal's variables
  pub marks : p.grounded < 2 ^ after 0 p.goal
  pub words_most : length (encode p) ≤ max_words
