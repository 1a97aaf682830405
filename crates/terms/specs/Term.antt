-- Terms, substitutions, the variables of a term, ground terms. An atom is the `app` of its predicate's number.
use Rattle.std.specs.Prelude.{ℕ, zero, suc, ◌≡◌, ◌⊎◌}
use Rattle.std.proofs.Math.Decide.{ℕ_discrete}

-- "A term is a function number with its arguments, or a variable."
mutual
  pub data Term : Type 0 where
    var : ℕ → Term
    app : ℕ → Terms → Term
    deriving Discrete as Term-discrete

  pub data Terms : Type 0 where
    nil : Terms
    cons : Term → Terms → Terms
    deriving Discrete as Terms-discrete

-- whether two terms are the same
abbrev pub same_term : Discrete Term
same_term = Term-discrete ℕ_discrete

-- how many arguments
abbrev pub count : Terms → ℕ
count nil = zero
count (cons t ts) = suc (count ts)

-- one list of arguments after another
abbrev pub join : Terms → Terms → Terms
join nil us = us
join (cons t ts) us = cons t (join ts us)

-- a term for each variable; any finite term, of the program's symbols or not
abbrev pub Subst : Type 0
Subst = ℕ → Term

-- a term with each variable's term put for it
abbrev mutual
  pub sub : Term → Subst → Term
  sub (var x) σ = σ x
  sub (app f ts) σ = app f (subs ts σ)

  pub subs : Terms → Subst → Terms
  subs nil σ = nil
  subs (cons t ts) σ = cons (sub t σ) (subs ts σ)

-- first σ, then τ
abbrev pub comp : Subst → Subst → Subst
comp σ τ x = sub (σ x) τ

-- P holds of every variable of the term
abbrev mutual
  pub All : (ℕ → Type 0) → Term → Type 0
  All P (var x) = P x
  All P (app f ts) = Alls P ts

  pub Alls : (ℕ → Type 0) → Terms → Type 0
  Alls P nil = Unit {0}
  Alls P (cons t ts) = All P t × Alls P ts

-- the variable x occurs in the term
abbrev mutual
  pub Occ : ℕ → Term → Type 0
  Occ x (var y) = x ≡ y
  Occ x (app f ts) = Occs x ts

  pub Occs : ℕ → Terms → Type 0
  Occs x nil = ⊥
  Occs x (cons t ts) = Occ x t ⊎ Occs x ts

-- a term without variables
abbrev pub Ground : Term → Type 0
Ground t = All (λ x. ⊥) t
