-- The variables of a term: decided whether one occurs, whether all or some have a decided property, listed, and bounded.
use Prim.Native.Nat.{ℕ, zero, suc, max, ◌<◌}
use native.Mathlib.Omega.{arith}
use native.Mathlib.Decide.{ℕ_discrete}
use mathlib.Core.Path.{◌≡◌, refl, ap, subst}
use mathlib.Core.Logic.{◌⊎◌, inl, inr}
use mathlib.Core.List.Memᴰ
use mathlib.Core.List.{List, [], ◌∷◌, ◌++◌, Memᴰ}
use Rattle.terms.specs.Term.{Term, Terms, var, app, nil, cons, All, Alls, Occ, Occs}

-- either of two, or both, are decided where each is
unfoldable pub either_decided : {P Q : Type 0} → Dec P → Dec Q → Dec (P ⊎ Q)
either_decided (yes p) q = yes (inl p)
either_decided (no n) (yes q) = yes (inr q)
either_decided {P} {Q} (no n) (no m) = no neither
  where
    neither : P ⊎ Q → ⊥
    neither (inl p) = n p
    neither (inr q) = m q

unfoldable pub both_decided : {P Q : Type 0} → Dec P → Dec Q → Dec (P × Q)
both_decided (yes p) (yes q) = yes (p, q)
both_decided (yes p) (no m) = no (λ h. m h.1)
both_decided (no n) q = no (λ h. n h.0)

-- a decision carried to what says the same
unfoldable pub decided_for : {P Q : Type 0} → (P → Q) → (Q → P) → Dec P → Dec Q
decided_for to from (yes p) = yes (to p)
decided_for to from (no n) = no (λ q. n (from q))

-- whether a variable occurs
unfoldable mutual
  unfolding ℕ_discrete either_decided

  pub occ_decided : (x : ℕ) (t : Term) → Dec (Occ x t)
  occ_decided x (var y) = ℕ_discrete x y
  occ_decided x (app f ts) = occs_decided x ts

  pub occs_decided : (x : ℕ) (ts : Terms) → Dec (Occs x ts)
  occs_decided x nil = no (λ o. o)
  occs_decided x (cons t ts) = either_decided (occ_decided x t) (occs_decided x ts)

-- some variable of the term has the property
abbrev pub Some : (ℕ → Type 0) → Term → Type 0
Some P t = (x : ℕ) × Occ x t × P x

abbrev pub Somes : (ℕ → Type 0) → Terms → Type 0
Somes P ts = (x : ℕ) × Occs x ts × P x

-- whether all variables have a decided property, and whether some has it
module _ (P : ℕ → Type 0) (decide : (x : ℕ) → Dec (P x)) where
  unfoldable mutual
    unfolding both_decided

    pub all_decided : (t : Term) → Dec (All P t)
    all_decided (var y) = decide y
    all_decided (app f ts) = alls_decided ts

    pub alls_decided : (ts : Terms) → Dec (Alls P ts)
    alls_decided nil = yes tt
    alls_decided (cons t ts) = both_decided (all_decided t) (alls_decided ts)

  pub somes_or : (t : Term) (ts : Terms) → Some P t ⊎ Somes P ts → Somes P (cons t ts)
  somes_or t ts (inl h) = (h.0, inl h.1, h.2)
  somes_or t ts (inr h) = (h.0, inr h.1, h.2)

  pub or_somes : (t : Term) (ts : Terms) (x : ℕ) → Occ x t ⊎ Occs x ts → P x → Some P t ⊎ Somes P ts
  or_somes t ts x (inl o) h = inl (x, o, h)
  or_somes t ts x (inr o) h = inr (x, o, h)

  unfoldable mutual
    unfolding either_decided decided_for somes_or

    pub some_decided : (t : Term) → Dec (Some P t)
    some_decided (var y) = decided_for (λ h. (y, refl, h)) (λ h. subst P h.1 h.2) (decide y)
    some_decided (app f ts) = somes_decided ts

    pub somes_decided : (ts : Terms) → Dec (Somes P ts)
    somes_decided nil = no (λ h. h.1)
    somes_decided (cons t ts) = decided_for (somes_or t ts) (λ h. or_somes t ts h.0 h.1 h.2) (either_decided (some_decided t) (somes_decided ts))

-- the variables of a term, from left to right, as often as they occur
abbrev mutual
  pub variables : Term → List ℕ
  variables (var x) = x ∷ []
  variables (app f ts) = variabless ts

  pub variabless : Terms → List ℕ
  variabless nil = []
  variabless (cons t ts) = variables t ++ variabless ts

mutual
  pub occ_variables : (x : ℕ) (t : Term) → Occ x t → Memᴰ x (variables t)
  occ_variables x (var y) o = Memᴰ.head o
  occ_variables x (app f ts) o = occs_variabless x ts o

  pub occs_variabless : (x : ℕ) (ts : Terms) → Occs x ts → Memᴰ x (variabless ts)
  occs_variabless x nil o = absurd o
  occs_variabless x (cons t ts) (inl o) = Memᴰ.append_left (variabless ts) (occ_variables x t o)
  occs_variabless x (cons t ts) (inr o) = Memᴰ.append_right (variables t) (occs_variabless x ts o)

-- a number above f of every variable of a term
module _ (f : ℕ → ℕ) where
  abbrev mutual
    pub above : Term → ℕ
    above (var x) = suc (f x)
    above (app g ts) = aboves ts

    pub aboves : Terms → ℕ
    aboves nil = zero
    aboves (cons t ts) = max (above t) (aboves ts)

  mutual
    pub occ_above : (x : ℕ) (t : Term) → Occ x t → f x < above t
    occ_above x (var y) o = let e : f x ≡ f y = ap f o in omega arith
    occ_above x (app g ts) o = occs_aboves x ts o

    pub occs_aboves : (x : ℕ) (ts : Terms) → Occs x ts → f x < aboves ts
    occs_aboves x nil o = absurd o
    occs_aboves x (cons t ts) (inl o) = let h = occ_above x t o in omega arith
    occs_aboves x (cons t ts) (inr o) = let h = occs_aboves x ts o in omega arith
