-- Unification of two terms in one space of variables, executable: a strong most general solution, or the proof that there is none.
-- By recursion on the number of variables and, inside it, on the terms: an answer that binds anything leaves a shorter space.
use Prim.Native.Nat.{ℕ, zero, suc, ◌<◌}
use native.Mathlib.Omega.{arith}
use native.Mathlib.Decide.{ℕ_discrete}
use mathlib.Core.Path.{◌≡◌, refl, sym, ap, ap₂, ◌∙◌, subst}
use mathlib.Core.Logic.{◌⊎◌, inl, inr}
use mathlib.Core.List.Memᴰ
use mathlib.Core.List.{List, ◌++◌, Memᴰ}
use lib.ListN.{length}
use Rattle.terms.specs.Term.{Term, Terms, var, app, nil, cons, Subst, sub, subs, comp, Occs}
use Rattle.terms.proofs.Substs.{sub_comp, subs_comp, occ_all}
use Rattle.terms.proofs.Solutions.{Solution, solution_of_all, solution_for, solution_then, solution_bind, bind, occurs_check}
use Rattle.terms.proofs.Variables.{variables, occ_variables, occs_decided}
use Rattle.terms.proofs.Space.{without, without_shorter, Within, Withins, Into, withins_under, into_then, into_itself, into_less, into_bind}

-- what is found of a solution set over a space: nothing is asked, or a solution that does without one variable of the space, or there is none
pub data Answer (vs : List ℕ) (U : Subst → Type 0) : Type 0 where
  every : ((τ : Subst) → U τ) → Answer vs U
  solved : (σ : Subst) (x : ℕ) → Solution U σ → Memᴰ x vs → Into vs (without x vs) σ → Answer vs U
  never : ((τ : Subst) → U τ → ⊥) → Answer vs U

-- the same answer for a set with the same members
unfoldable pub answer_for : {vs : List ℕ} {U U' : Subst → Type 0} → ((τ : Subst) → U τ → U' τ) → ((τ : Subst) → U' τ → U τ) → Answer vs U → Answer vs U'
answer_for to from (every h) = every (λ τ. to τ (h τ))
answer_for to from (solved σ x s m i) = solved σ x (solution_for to from s) m i
answer_for to from (never h) = never (λ τ u. h τ (from τ u))

-- a variable and a variable
unfoldable pub two_variables : {vs : List ℕ} (x y : ℕ) → Memᴰ x vs → Memᴰ y vs → Dec (x ≡ y) → Answer vs (λ τ. τ x ≡ τ y)
two_variables x y p q (yes e) = every (λ τ. ap τ e)
two_variables {vs} x y p q (no n) = solved (bind x (var y)) x (solution_bind x (var y) n) p (into_bind vs x (var y) q n)

-- a variable and a function's term
unfoldable pub variable_and_app : {vs : List ℕ} (x f : ℕ) (ts : Terms) → Memᴰ x vs → Withins vs ts → Dec (Occs x ts)
    → Answer vs (λ τ. τ x ≡ sub (app f ts) τ)
variable_and_app x f ts p q (yes o) = never (occurs_check x f ts o)
variable_and_app {vs} x f ts p q (no n) = solved (bind x (app f ts)) x (solution_bind x (app f ts) n) p (into_bind vs x (app f ts) q n)

-- two functions' terms
unfoldable pub two_apps : {vs : List ℕ} (f g : ℕ) (ss ts : Terms) → Dec (f ≡ g) → Answer vs (λ τ. subs ss τ ≡ subs ts τ)
    → Answer vs (λ τ. sub (app f ss) τ ≡ sub (app g ts) τ)
unfolding answer_for
two_apps f g ss ts (yes e) a = answer_for (λ τ u. ap₂ app e u) (λ τ u. cc) a
two_apps f g ss ts (no n) a = never (λ τ u. n (cc))

pub none_or_some : (t : Term) (ts : Terms) → nil ≡ cons t ts → ⊥
none_or_some t ts e = let z : ◌≡◌ {A = ℕ} 0 1 = cc in omega arith

-- a first argument's solution, then what is left under it
module _ (vs : List ℕ) (s t : Term) (ss ts : Terms) (σ : Subst) (x : ℕ) (first : Solution (λ τ. sub s τ ≡ sub t τ) σ)
    (member : Memᴰ x vs) (into : Into vs (without x vs) σ) where
  pub then_left : {ρ : Subst} → Solution (λ τ. subs (subs ss σ) τ ≡ subs (subs ts σ) τ) ρ
      → Solution (λ τ. subs (cons s ss) τ ≡ subs (cons t ts) τ) (comp σ ρ)
  then_left left =
      solution_for (λ τ u. ap₂ cons u.0 u.1) (λ τ u. ((cc), (cc)))
      (solution_then {W = λ τ. subs ss τ ≡ subs ts τ} (λ τ θ u. sym (sub_comp s τ θ) ∙ ap (λ r. sub r θ) u ∙ sub_comp t τ θ) first
      (solution_for (λ τ u. sym (subs_comp ss σ τ) ∙ u ∙ subs_comp ts σ τ) (λ τ u. subs_comp ss σ τ ∙ u ∙ sym (subs_comp ts σ τ)) left))

  pub never_left : ((τ : Subst) → subs (subs ss σ) τ ≡ subs (subs ts σ) τ → ⊥) → (τ : Subst) → subs (cons s ss) τ ≡ subs (cons t ts) τ → ⊥
  never_left h τ u =
      let e : comp σ τ ≡ τ = first.absorbs τ (cc) in
      let w : subs ss τ ≡ subs ts τ = cc in
      h τ (subs_comp ss σ τ ∙ subst (λ (ρ : Subst). subs ss ρ ≡ subs ts ρ) (sym e) w ∙ sym (subs_comp ts σ τ))

  unfoldable pub left_under : Answer (without x vs) (λ τ. subs (subs ss σ) τ ≡ subs (subs ts σ) τ)
      → Answer vs (λ τ. subs (cons s ss) τ ≡ subs (cons t ts) τ)
  left_under (every h) = solved (comp σ var) x (then_left (solution_of_all h)) member (into_then into (into_itself (without x vs)))
  left_under (solved ρ y left m i) = solved (comp σ ρ) x (then_left left) member (into_then into (into_less (without x vs) y i))
  left_under (never h) = never (never_left h)

-- argument runs over a space of fewer than n variables
abbrev pub Solver : ℕ → Type 0
Solver n = (vs : List ℕ) → length vs < n → (ss ts : Terms) → Withins vs ss → Withins vs ts → Answer vs (λ τ. subs ss τ ≡ subs ts τ)

module _ (n : ℕ) (lower : Solver n) (vs : List ℕ) (fits : length vs < suc n) where
  unfoldable pub first_then_rest : (s t : Term) (ss ts : Terms) → Withins vs ss → Withins vs ts → Answer vs (λ τ. sub s τ ≡ sub t τ)
      → Answer vs (λ τ. subs ss τ ≡ subs ts τ) → Answer vs (λ τ. subs (cons s ss) τ ≡ subs (cons t ts) τ)
  unfolding answer_for left_under
  first_then_rest s t ss ts p q (every h) rest = answer_for (λ τ u. ap₂ cons (h τ) u) (λ τ u. cc) rest
  first_then_rest s t ss ts p q (solved σ x first m i) rest =
      left_under vs s t ss ts σ x first m i
      (lower (without x vs) (let h = without_shorter x vs m in omega arith) (subs ss σ) (subs ts σ) (withins_under i ss p) (withins_under i ts q))
  first_then_rest s t ss ts p q (never h) rest = never (λ τ u. h τ (cc))

  -- "Two terms are compared through their arguments, and argument runs through their terms."
  unfoldable mutual
    unfolding ℕ_discrete occs_decided answer_for two_variables variable_and_app two_apps first_then_rest

    pub two_terms : (s t : Term) → Within vs s → Within vs t → Answer vs (λ τ. sub s τ ≡ sub t τ)
    two_terms (var x) (var y) p q = two_variables x y p q (ℕ_discrete x y)
    two_terms (var x) (app g ts) p q = variable_and_app x g ts p q (occs_decided x ts)
    two_terms (app f ss) (var y) p q = answer_for (λ τ u. sym u) (λ τ u. sym u) (variable_and_app y f ss q p (occs_decided y ss))
    two_terms (app f ss) (app g ts) p q = two_apps f g ss ts (ℕ_discrete f g) (two_runs ss ts p q)

    pub two_runs : (ss ts : Terms) → Withins vs ss → Withins vs ts → Answer vs (λ τ. subs ss τ ≡ subs ts τ)
    two_runs nil nil p q = every (λ τ. refl)
    two_runs nil (cons t ts) p q = never (λ τ u. none_or_some (sub t τ) (subs ts τ) u)
    two_runs (cons s ss) nil p q = never (λ τ u. none_or_some (sub s τ) (subs ss τ) (sym u))
    two_runs (cons s ss) (cons t ts) p q = first_then_rest s t ss ts p.1 q.1 (two_terms s t p.0 q.0) (two_runs ss ts p.1 q.1)

unfoldable pub solver : (n : ℕ) → Solver n
unfolding two_runs
solver zero vs fits ss ts p q = absurd (let h = fits in omega arith)
solver (suc n) vs fits ss ts p q = two_runs n (solver n) vs fits ss ts p q

-- what is said of two terms: a strong most general solution, or none at all
abbrev pub Unified : Term → Term → Type 0
Unified s t = ((σ : Subst) × Solution (λ τ. sub s τ ≡ sub t τ) σ) ⊎ ((τ : Subst) → sub s τ ≡ sub t τ → ⊥)

unfoldable pub unified : {vs : List ℕ} (s t : Term) → Answer vs (λ τ. sub s τ ≡ sub t τ) → Unified s t
unified s t (every h) = inl (var, solution_of_all h)
unified s t (solved σ x sol m i) = inl (σ, sol)
unified s t (never h) = inr h

unfoldable pub unify : (s t : Term) → Unified s t
unfolding unified two_terms solver
unify s t =
    let vs = variables s ++ variables t in
    unified s t
    (two_terms (length vs) (solver (length vs)) vs (omega arith) s t
    (occ_all (λ z. Memᴰ z vs) s (λ z o. Memᴰ.append_left (variables t) (occ_variables z s o)))
    (occ_all (λ z. Memᴰ z vs) t (λ z o. Memᴰ.append_right (variables s) (occ_variables z t o))))
