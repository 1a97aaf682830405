-- The store of bindings of a unification, as it stands in the code, and what a variable stands for in full.
use Rattle.std.specs.Prelude.{ℕ, ◌+◌, ◌-◌, ◌≡◌, List, get_or, drop, ltb}
use Rattle.std.proofs.Math.Option.{Option, none, some}
use Rattle.terms.specs.Term.{Term, Terms, var, app, nil, cons, subs}
use Rattle.terms.specs.Cells.{first_variable, variables, pick, terms_of}

-- places below this are in the first atom, "the call's atom or the clause's atom", the others in the second
abbrev pub second_atom : ℕ
second_atom = 64

-- places from here on are no place: the variable is unbound
abbrev pub no_place : ℕ
no_place = 128

-- the variables of both atoms: those of the first, and behind them those of the second
abbrev pub all_variables : ℕ
all_variables = variables + variables

-- "the two atoms' variables kept apart": variable v of the second atom is 16 + v
abbrev pub second : Terms → Terms
second ts = subs ts (λ v. var (variables + v))

-- the cells from a place on
abbrev pub cells_at : List ℕ → List ℕ → ℕ → List ℕ
cells_at a b p = pick (ltb p second_atom) (drop p a) (drop (p - second_atom) b)

-- the terms that stand at a place of one of the two atoms
abbrev pub terms_at : List ℕ → List ℕ → List ℕ → ℕ → Terms
terms_at arities a b p = pick (ltb p second_atom) (terms_of arities (cells_at a b p)) (second (terms_of arities (cells_at a b p)))

-- the number that a variable's cell at a place has in the store
abbrev pub variable_at : ℕ → ℕ → ℕ
variable_at p c = pick (ltb p second_atom) (c - first_variable) (variables + (c - first_variable))

-- the first term, where there is one
abbrev pub first_term : Terms → Term
first_term nil = var 0
first_term (cons t ts) = t

-- "What a variable stands for is shown as the run of cells itself": what each variable is bound to, as written
abbrev pub bound : List ℕ → List ℕ → List ℕ → List ℕ → ℕ → Option Term
bound arities a b places x =
    pick (ltb (get_or places x no_place) no_place) (some (first_term (terms_at arities a b (get_or places x no_place)))) none

-- a term stands in full for another: each bound variable in it is followed until only unbound ones are left
mutual
  pub data Stands (b : ℕ → Option Term) : Term → Term → Type 0 where
    unbound : {x : ℕ} → b x ≡ none → Stands b (var x) (var x)
    followed : {x : ℕ} {t u : Term} → b x ≡ some t → Stands b t u → Stands b (var x) u
    node : {f : ℕ} {ts us : Terms} → StandAll b ts us → Stands b (app f ts) (app f us)

  pub data StandAll (b : ℕ → Option Term) : Terms → Terms → Type 0 where
    done : StandAll b nil nil
    more : {t u : Term} {ts us : Terms} → Stands b t u → StandAll b ts us → StandAll b (cons t ts) (cons u us)
