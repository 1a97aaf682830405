-- The unifier computes: small samples, each by reflexivity.
use mathlib.Core.Path.{◌≡◌, refl}
use mathlib.Core.Logic.{inl, inr}
use mathlib.Core.Option.{Option, none, some}
use Rattle.terms.specs.Term.{Term, var, app, nil, cons, sub}
use Rattle.terms.proofs.Unify.{Unified, unify}
use Rattle.terms.proofs.Pairs.{Decided, unifier_decided}

abbrev p : Term → Term → Term
p s t = app 0 (cons s (cons t nil))

abbrev f : Term → Term
f t = app 1 (cons t nil)

abbrev a : Term
a = app 2 nil

abbrev b : Term
b = app 3 nil

-- what two terms of one space become
abbrev made : (s t : Term) → Unified s t → Option Term
made s t (inl u) = some (sub s u.0)
made s t (inr n) = none

unfoldable equal : Term → Term → Option Term
unfolding unify
equal s t = made s t (unify s t)

occurs_in_itself : equal (p (var 0) (var 0)) (p (var 0) (f (var 0))) ≡ none
unfolding equal
occurs_in_itself = refl

clash_under_binding : equal (p a (var 0)) (p (var 0) b) ≡ none
unfolding equal
clash_under_binding = refl

chain_of_bindings : equal (p (var 0) (p (f (var 1)) (var 2))) (p (var 1) (p (var 2) (f a))) ≡ some (p a (p (f a) (f a)))
unfolding equal
chain_of_bindings = refl

-- what two atoms become whose variables are kept apart
abbrev met : (A B : Term) → Decided A B → Option Term
met A B (inl n) = none
met A B (inr u) = some (sub A u.0)

unfoldable meets : Term → Term → Option Term
unfolding unifier_decided
meets A B = met A B (unifier_decided A B)

-- "`p(V0,V0)` with goal `p(V0,s(V0))`": apart by the occurs check
double_apart : meets (p (var 0) (f (var 0))) (p (var 0) (var 0)) ≡ none
unfolding meets
double_apart = refl

one_name_twice : meets (p a (var 0)) (p (var 0) b) ≡ some (p a b)
unfolding meets
one_name_twice = refl
