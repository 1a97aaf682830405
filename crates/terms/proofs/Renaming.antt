-- Any two most general unifiers of two atoms agree up to a renaming: each goes over into the other, variables to variables, different ones to different ones.
use Prim.Native.Nat.{ℕ}
use native.Mathlib.Omega.{arith}
use mathlib.Core.Path.{◌≡◌, refl, sym, ap, ◌∙◌}
use mathlib.Core.Logic.{◌⊎◌, inl, inr}
use Rattle.terms.specs.Term.{Term, var, app, Subst, sub, comp, Occ}
use Rattle.terms.specs.Unifier.{MostGeneral}
use Rattle.terms.proofs.Substs.{sub_comp, sub_var, agree_sub}

-- z occurs in what a variable of A or of B stands for
abbrev pub Used : Term → Term → Subst → Subst → ℕ → Type 0
Used A B α β z = ((x : ℕ) × Occ x A × Occ z (α x)) ⊎ ((y : ℕ) × Occ y B × Occ z (β y))

-- the pair (α, β) goes over into (α', β') by θ and back by θ', and θ renames the variables that are used
pub record Renamed (A B : Term) (α β α' β' : Subst) : Type 0 where
  pub θ : Subst
  pub θ' : Subst
  pub left : (x : ℕ) → Occ x A → sub (α x) θ ≡ α' x
  pub right : (y : ℕ) → Occ y B → sub (β y) θ ≡ β' y
  pub left_back : (x : ℕ) → Occ x A → sub (α' x) θ' ≡ α x
  pub right_back : (y : ℕ) → Occ y B → sub (β' y) θ' ≡ β y
  -- a used variable comes back from what it goes to
  pub back : (z : ℕ) → Used A B α β z → sub (θ z) θ' ≡ var z
  pub to_variable : (z : ℕ) → Used A B α β z → (w : ℕ) × (θ z ≡ var w)
  pub to_different : (z z₂ : ℕ) → Used A B α β z → Used A B α β z₂ → θ z ≡ θ z₂ → z ≡ z₂

-- what goes to a variable is one
under_variable : (t : Term) (θ : Subst) (z : ℕ) → sub t θ ≡ var z → (w : ℕ) × (t ≡ var w)
under_variable (var w) θ z e = (w, refl)
under_variable (app f ts) θ z e = absurd (let q : ◌≡◌ {A = ℕ} 0 1 = cc in omega arith)

-- a term that comes back as it was has each variable come back
there_and_back : (t : Term) (θ θ' : Subst) → sub (sub t θ) θ' ≡ t → (z : ℕ) → Occ z t → sub (θ z) θ' ≡ var z
there_and_back t θ θ' e z o = agree_sub t (comp θ θ') var (sym (sub_comp t θ θ') ∙ e ∙ sym (sub_var t)) z o

pub most_general_renamed : {A B : Term} {α β α' β' : Subst} → MostGeneral A B α β → MostGeneral A B α' β' → Renamed A B α β α' β'
most_general_renamed {A} {B} {α} {β} {α'} {β'} u u' =
    record {
      θ = there.0;
      θ' = again.0;
      left = there.1;
      right = there.2;
      left_back = again.1;
      right_back = again.2;
      back = back;
      to_variable = λ z h. under_variable (there.0 z) again.0 z (back z h);
      to_different = λ z z₂ h h₂ e. let q : var z ≡ var z₂ = sym (back z h) ∙ ap (λ t. sub t again.0) e ∙ back z₂ h₂ in cc;
    }
  where
    there : (θ : Subst) × ((x : ℕ) → Occ x A → sub (α x) θ ≡ α' x) × ((y : ℕ) → Occ y B → sub (β y) θ ≡ β' y)
    there = u.general α' β' u'.unifies

    again : (θ : Subst) × ((x : ℕ) → Occ x A → sub (α' x) θ ≡ α x) × ((y : ℕ) → Occ y B → sub (β' y) θ ≡ β y)
    again = u'.general α β u.unifies

    back : (z : ℕ) → Used A B α β z → sub (there.0 z) again.0 ≡ var z
    back z (inl h) =
        there_and_back (α h.0) there.0 again.0 (ap (λ t. sub t again.0) (there.1 h.0 h.1) ∙ again.1 h.0 h.1) z h.2
    back z (inr h) =
        there_and_back (β h.0) there.0 again.0 (ap (λ t. sub t again.0) (there.2 h.0 h.1) ∙ again.2 h.0 h.1) z h.2
