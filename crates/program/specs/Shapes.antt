-- Shapes: atoms with their variables renumbered by first appearance, and the numbers of the shapes.
use Rattle.std.specs.Prelude.{ℕ, zero, suc, ◌⊎◌, List, [], ◌∷◌, map, take, drop}
use Rattle.std.proofs.Math.Decide.{ℕ_discrete}
use Rattle.terms.specs.Term.{Term, Terms, same_term, var, app, nil, cons, sub, Occ}
use Rattle.program.specs.Program.{Clause, Program, bodies}

-- the place of the first a in the list, or its length where there is none
abbrev pub place : {A : Type 0} → Discrete A → A → List A → ℕ
place same a [] = zero
place same a (b ∷ bs) = elim (same a b) [ yes _ ↦ zero | no _ ↦ suc (place same a bs) ]

-- the list, and a behind it where it is not in the list
abbrev pub with : {A : Type 0} → Discrete A → List A → A → List A
with same [] a = a ∷ []
with same (b ∷ bs) a = elim (same a b) [ yes _ ↦ b ∷ bs | no _ ↦ b ∷ with same bs a ]

-- the variables by first appearance, those met before first
abbrev mutual
  pub met : List ℕ → Term → List ℕ
  met seen (var v) = with ℕ_discrete seen v
  met seen (app f ts) = mets seen ts

  pub mets : List ℕ → Terms → List ℕ
  mets seen nil = seen
  mets seen (cons t ts) = mets (met seen t) ts

-- the number that variable v of the atom has in its shape
abbrev pub number : Term → ℕ → ℕ
number t v = place ℕ_discrete v (met [] t)

-- "A *shape* is an atom with its variables renumbered by first appearance."
abbrev pub shape_of : Term → Term
shape_of t = sub t (λ v. var (number t v))

-- each once, in the order of the first appearances
abbrev pub distinct : List Term → List Term → List Term
distinct seen [] = seen
distinct seen (t ∷ ts) = distinct (with same_term seen t) ts

-- "Shape 0 is the goal's; the body atoms follow in program order, each distinct shape numbered once."
abbrev pub shapes : Program → List Term
shapes p = distinct [] (shape_of p.goal ∷ map shape_of (bodies p.clauses))

-- the number of the shape of an atom of the program
abbrev pub shape_number : Program → Term → ℕ
shape_number p t = place same_term (shape_of t) (shapes p)

-- v occurs in one of the atoms
abbrev pub In : ℕ → List Term → Type 0
In v [] = ⊥
In v (t ∷ ts) = Occ v t ⊎ In v ts

-- "The list of place i in clause n has the variables occurring both in the head or body atoms 1 to i-1, and in body atoms i to m or the head."
-- Here i counts from 0: the atoms before the place are the first i.
abbrev pub Listed : Clause → ℕ → ℕ → Type 0
Listed c i v = In v (c.head ∷ take i c.body) × In v (c.head ∷ drop i c.body)
