-- Solutions of a store of bindings, and what one more binding does to them.
use Prim.Native.Nat.{ℕ}
use mathlib.Core.Path.{◌≡◌, refl, sym, ap, ◌∙◌}
use mathlib.Core.Logic.{◌↔◌}
use native.Mathlib.Decide.{ℕ_discrete}
use Rattle.terms.specs.Term.{Term, var, Subst, sub, comp}
use Rattle.terms.specs.Unifying.{Solves}
use Rattle.terms.proofs.Substs.{sub_comp, sub_agree}
use Rattle.terms.proofs.Solutions.{bind, bind_same, bind_other}

-- under a solution a term is what it stands for
pub solves_sub : (σ τ : Subst) → Solves σ τ → (t : Term) → sub (sub t σ) τ ≡ sub t τ
solves_sub σ τ h t = sub_comp t σ τ ∙ sub_agree t (comp σ τ) τ (λ x _. h x)

-- the solutions of a store with one more binding are its solutions that agree with the binding
module _ (σ : Subst) (x : ℕ) (t : Term) (itself : σ x ≡ var x) where
  abbrev pub extended : Subst
  extended y = sub (σ y) (bind x (sub t σ))

  one_absorbed : (τ : Subst) → sub (sub t σ) τ ≡ τ x → (y : ℕ) → sub (bind x (sub t σ) y) τ ≡ τ y
  one_absorbed τ h y = go (ℕ_discrete y x)
    where
      go : Dec (y ≡ x) → sub (bind x (sub t σ) y) τ ≡ τ y
      go (yes e) = rw (e, bind_same x (sub t σ)) h
      go (no f) = rw (bind_other x y (sub t σ) f) refl

  extended_absorbed : (τ : Subst) → sub (sub t σ) τ ≡ τ x → (y : ℕ) → sub (extended y) τ ≡ sub (σ y) τ
  extended_absorbed τ h y =
      sub_comp (σ y) (bind x (sub t σ)) τ ∙ sub_agree (σ y) (comp (bind x (sub t σ)) τ) τ (λ z _. one_absorbed τ h z)

  pub extended_solves : (τ : Subst) → Solves extended τ ↔ (Solves σ τ × (τ x ≡ sub t τ))
  extended_solves τ = (
    (λ h.
        let v : sub (sub t σ) τ ≡ τ x = ap (λ (u : Term). sub u τ) (sym (bind_same x (sub t σ)) ∙ ap (λ (u : Term). sub u (bind x (sub t σ))) (sym itself)) ∙ h x in
        let s : Solves σ τ = λ y. sym (extended_absorbed τ v y) ∙ h y in
        (s, sym v ∙ solves_sub σ τ s t)),
    (λ h. λ y. extended_absorbed τ (solves_sub σ τ h.0 t ∙ sym h.1) y ∙ h.0 y),
  )
