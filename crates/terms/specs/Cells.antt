-- The run of cells of a term, and what a run of cells says.
use Rattle.std.specs.Prelude.{ℕ, zero, suc, ◌+◌, ◌-◌, ◌<◌, ◌≤◌, ◌≡◌, Bool, true, false, List, [], ◌∷◌, ◌++◌, length, get_or, ltb}
use Rattle.terms.specs.Term.{Term, Terms, var, app, nil, cons, count}

-- "a variable, 32768 + v"
abbrev pub first_variable : ℕ
first_variable = 32768

-- "v is at most 15"
abbrev pub variables : ℕ
variables = 16

-- "An atom has at most 32 cells."
abbrev pub atom_cells : ℕ
atom_cells = 32

-- "Atoms are in prefix order: a predicate number below P, then its argument terms."
abbrev mutual
  pub enc : Term → List ℕ
  enc (var v) = (first_variable + v) ∷ []
  enc (app f ts) = f ∷ encs ts

  pub encs : Terms → List ℕ
  encs nil = []
  encs (cons t ts) = enc t ++ encs ts

-- each function number is declared, stands with as many arguments as its arity, and each variable is at most 15
abbrev mutual
  pub Keeps : List ℕ → Term → Type 0
  Keeps arities (var v) = v < variables
  Keeps arities (app f ts) = (f < length arities) × (f < first_variable) × (count ts ≡ get_or arities f 0) × Keepss arities ts

  pub Keepss : List ℕ → Terms → Type 0
  Keepss arities nil = Unit {0}
  Keepss arities (cons t ts) = Keeps arities t × Keepss arities ts

-- an atom: a predicate with as many arguments as its arity, "at most 32 cells"
pub record Atom (predicates functions : List ℕ) (t : Term) : Type 0 where
  pub predicate : ℕ
  pub arguments : Terms
  pub is : t ≡ app predicate arguments
  pub declared : predicate < length predicates
  pub arity : count arguments ≡ get_or predicates predicate 0
  pub keeps : Keepss functions arguments
  pub short : length (enc t) ≤ atom_cells

-- one of two, by a test
abbrev pub pick {ℓ} : {A : Type ℓ} → Bool → A → A → A
pick true a b = a
pick false a b = b

-- the first n terms, and those behind them
abbrev pub take_terms : ℕ → Terms → Terms
take_terms zero ts = nil
take_terms (suc n) nil = nil
take_terms (suc n) (cons t ts) = cons t (take_terms n ts)

abbrev pub drop_terms : ℕ → Terms → Terms
drop_terms zero ts = ts
drop_terms (suc n) nil = nil
drop_terms (suc n) (cons t ts) = drop_terms n ts

-- a cell read before the terms behind it: a variable is one term more, a function takes its arguments from them
abbrev pub before : List ℕ → ℕ → Terms → Terms
before arities c ts =
    pick (ltb c first_variable)
    (cons (app c (take_terms (get_or arities c 0) ts)) (drop_terms (get_or arities c 0) ts))
    (cons (var (c - first_variable)) ts)

-- the terms that a run of cells says, read from its end
abbrev pub terms_of : List ℕ → List ℕ → Terms
terms_of arities [] = nil
terms_of arities (c ∷ cs) = before arities c (terms_of arities cs)

-- n whole terms stand at the start of the cells
pub record Run (arities cells : List ℕ) (n : ℕ) : Type 0 where
  pub terms : Terms
  pub rest : List ℕ
  pub cut : cells ≡ encs terms ++ rest
  pub keeps : Keepss arities terms
  pub many : count terms ≡ n
