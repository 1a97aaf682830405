-- Passing of marks computes: small samples, each by reflexivity.
use Prim.Native.Nat.{ℕ, ◌-◌}
use native.Mathlib.Decide.{ℕ_discrete}
use mathlib.Core.Path.{◌≡◌, refl}
use mathlib.Core.Logic.{◌⊎◌, inl, inr}
use mathlib.Core.Option.{Option, none, some}
use Rattle.terms.specs.Term.{Term, var, app, nil, cons}
use Rattle.terms.specs.Unifier.{Apart}
use Rattle.marks.specs.Pass.{Pass}
use Rattle.marks.proofs.Passing.{pass_decided}
use Rattle.marks.proofs.Modes.{kept_of, renumbered_of}

abbrev p : Term → Term → Term
p s t = app 0 (cons s (cons t nil))

abbrev f : Term → Term
f t = app 1 (cons t nil)

abbrev a : Term
a = app 2 nil

abbrev b : Term
b = app 3 nil

abbrev reached : {A B : Term} {M N : ℕ} → Apart A B ⊎ ((R : ℕ) × Pass A M B N R) → Option ℕ
reached (inl n) = none
reached (inr r) = some r.0

unfoldable result : Term → ℕ → Term → ℕ → Option ℕ
unfolding pass_decided
result A M B N = reached (pass_decided A M B N)

-- *Legs*: the call `leg(G0,V1)` passes its mark to the body's shape and to the heads `leg(a,b)` and `leg(b,V0)`
call_to_head : result (p (var 0) (var 1)) 1 (p (var 0) (var 1)) 0 ≡ some 1
unfolding result
call_to_head = refl

call_to_second_head : result (p (var 0) (var 1)) 1 (p b (var 0)) 0 ≡ some 0
unfolding result
call_to_second_head = refl

-- and the heads pass theirs back to the call, which keeps its own marks
head_to_call : result (p a b) 0 (p (var 0) (var 1)) 1 ≡ some 3
unfolding result
head_to_call = refl

-- *Late call*: `p(V0,V0)` takes the mark of either argument to the other
double : result (p (var 0) (var 0)) 1 (p (var 0) (var 1)) 0 ≡ some 3
unfolding result
double = refl

-- "one bound to a compound of ground parts is ground too"
compound : result (p (var 0) (var 0)) 0 (p (f (f a)) (var 3)) 0 ≡ some 8
unfolding result
compound = refl

-- "`p(V0,V0)` with goal `p(V0,s(V0))`": no marks pass
apart : result (p (var 0) (f (var 0))) 1 (p (var 0) (var 0)) 0 ≡ none
unfolding result
apart = refl

-- a mask kept to a list, and one taken to a shape's numbering
kept : kept_of (λ v. v ≡ 2) (λ v. ℕ_discrete v 2) 7 ≡ 4
unfolding kept_of ℕ_discrete
kept = refl

renumbered : renumbered_of (p (var 5) (f (var 3))) (λ v. 5 - v) 40 ≡ 5
unfolding renumbered_of
renumbered = refl
