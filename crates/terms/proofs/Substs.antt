-- Laws of substitution: composition, agreement on the variables that occur, what holds of every variable, ground terms.
use Prim.Native.Nat.{ℕ}
use mathlib.Core.Path.{◌≡◌, refl, sym, ap, ap₂, ◌∙◌}
use mathlib.Core.Logic.{inl, inr}
use Rattle.terms.specs.Term.{Term, Terms, var, app, nil, cons, Subst, sub, subs, comp, All, Alls, Occ, Occs, Ground}

-- one substitution after another is their composition
mutual
  pub sub_comp : (t : Term) (σ τ : Subst) → sub (sub t σ) τ ≡ sub t (comp σ τ)
  sub_comp (var x) σ τ = refl
  sub_comp (app f ts) σ τ = ap (app f) (subs_comp ts σ τ)

  pub subs_comp : (ts : Terms) (σ τ : Subst) → subs (subs ts σ) τ ≡ subs ts (comp σ τ)
  subs_comp nil σ τ = refl
  subs_comp (cons t ts) σ τ = ap₂ cons (sub_comp t σ τ) (subs_comp ts σ τ)

-- the substitution that changes nothing
mutual
  pub sub_var : (t : Term) → sub t var ≡ t
  sub_var (var x) = refl
  sub_var (app f ts) = ap (app f) (subs_var ts)

  pub subs_var : (ts : Terms) → subs ts var ≡ ts
  subs_var nil = refl
  subs_var (cons t ts) = ap₂ cons (sub_var t) (subs_var ts)

-- substitutions that agree where a variable occurs give the same term
mutual
  pub sub_agree : (t : Term) (σ τ : Subst) → ((x : ℕ) → Occ x t → σ x ≡ τ x) → sub t σ ≡ sub t τ
  sub_agree (var x) σ τ h = h x refl
  sub_agree (app f ts) σ τ h = ap (app f) (subs_agree ts σ τ h)

  pub subs_agree : (ts : Terms) (σ τ : Subst) → ((x : ℕ) → Occs x ts → σ x ≡ τ x) → subs ts σ ≡ subs ts τ
  subs_agree nil σ τ h = refl
  subs_agree (cons t ts) σ τ h = ap₂ cons (sub_agree t σ τ (λ x o. h x (inl o))) (subs_agree ts σ τ (λ x o. h x (inr o)))

-- and only those do
mutual
  pub agree_sub : (t : Term) (σ τ : Subst) → sub t σ ≡ sub t τ → (x : ℕ) → Occ x t → σ x ≡ τ x
  agree_sub (var y) σ τ e x o = ap σ o ∙ e ∙ ap τ (sym o)
  agree_sub (app f ts) σ τ e x o = agree_subs ts σ τ (cc) x o

  pub agree_subs : (ts : Terms) (σ τ : Subst) → subs ts σ ≡ subs ts τ → (x : ℕ) → Occs x ts → σ x ≡ τ x
  agree_subs nil σ τ e x o = absurd o
  agree_subs (cons t ts) σ τ e x (inl o) = agree_sub t σ τ (cc) x o
  agree_subs (cons t ts) σ τ e x (inr o) = agree_subs ts σ τ (cc) x o

-- what holds of every variable of a term under a substitution holds, of each variable's term, of every variable
mutual
  pub all_sub : (P : ℕ → Type 0) (t : Term) (σ : Subst) → All P (sub t σ) ≡ All (λ x. All P (σ x)) t
  all_sub P (var x) σ = refl
  all_sub P (app f ts) σ = alls_sub P ts σ

  pub alls_sub : (P : ℕ → Type 0) (ts : Terms) (σ : Subst) → Alls P (subs ts σ) ≡ Alls (λ x. All P (σ x)) ts
  alls_sub P nil σ = refl
  alls_sub P (cons t ts) σ = ap₂ (λ A B. A × B) (all_sub P t σ) (alls_sub P ts σ)

-- what holds of every variable is what holds of each that occurs
mutual
  pub all_occ : (P : ℕ → Type 0) (t : Term) → All P t → (x : ℕ) → Occ x t → P x
  all_occ P (var y) h x o = rw o h
  all_occ P (app f ts) h x o = alls_occ P ts h x o

  pub alls_occ : (P : ℕ → Type 0) (ts : Terms) → Alls P ts → (x : ℕ) → Occs x ts → P x
  alls_occ P nil h x o = absurd o
  alls_occ P (cons t ts) h x (inl o) = all_occ P t h.0 x o
  alls_occ P (cons t ts) h x (inr o) = alls_occ P ts h.1 x o

mutual
  pub occ_all : (P : ℕ → Type 0) (t : Term) → ((x : ℕ) → Occ x t → P x) → All P t
  occ_all P (var y) h = h y refl
  occ_all P (app f ts) h = occs_all P ts h

  pub occs_all : (P : ℕ → Type 0) (ts : Terms) → ((x : ℕ) → Occs x ts → P x) → Alls P ts
  occs_all P nil h = tt
  occs_all P (cons t ts) h = (occ_all P t (λ x o. h x (inl o)), occs_all P ts (λ x o. h x (inr o)))

-- a variable of a term under a substitution occurs in what one of the term's variables goes to
mutual
  pub occ_sub : (t : Term) (σ : Subst) (z : ℕ) → Occ z (sub t σ) → (x : ℕ) × Occ x t × Occ z (σ x)
  occ_sub (var x) σ z o = (x, refl, o)
  occ_sub (app f ts) σ z o = occs_sub ts σ z o

  pub occs_sub : (ts : Terms) (σ : Subst) (z : ℕ) → Occs z (subs ts σ) → (x : ℕ) × Occs x ts × Occ z (σ x)
  occs_sub nil σ z o = absurd o
  occs_sub (cons t ts) σ z (inl o) = let r = occ_sub t σ z o in (r.0, inl r.1, r.2)
  occs_sub (cons t ts) σ z (inr o) = let r = occs_sub ts σ z o in (r.0, inr r.1, r.2)

mutual
  pub sub_occ : (t : Term) (σ : Subst) (x z : ℕ) → Occ x t → Occ z (σ x) → Occ z (sub t σ)
  sub_occ (var y) σ x z o q = rw (← o) q
  sub_occ (app f ts) σ x z o q = subs_occ ts σ x z o q

  pub subs_occ : (ts : Terms) (σ : Subst) (x z : ℕ) → Occs x ts → Occ z (σ x) → Occs z (subs ts σ)
  subs_occ nil σ x z o q = absurd o
  subs_occ (cons t ts) σ x z (inl o) q = inl (sub_occ t σ x z o q)
  subs_occ (cons t ts) σ x z (inr o) q = inr (subs_occ ts σ x z o q)

-- a ground term stays as it is
pub ground_sub : (t : Term) (σ : Subst) → Ground t → sub t σ ≡ t
ground_sub t σ g = sub_agree t σ var (λ x o. absurd (all_occ (λ _. ⊥) t g x o)) ∙ sub_var t
