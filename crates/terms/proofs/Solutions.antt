-- Solution sets of equations between terms, and their strong most general solutions: one that every other solution absorbs.
-- Shown: a variable bound to a term without it, the occurs check, and one equation after another.
use Prim.Native.Nat.{ℕ, zero, suc, ◌+◌, ◌≤◌}
use native.Mathlib.Omega.{arith}
use native.Mathlib.Decide.{ℕ_discrete}
use mathlib.Core.Path.{◌≡◌, refl, sym, ap, ◌∙◌, fun_ext, subst}
use mathlib.Core.Logic.{inl, inr}
use Rattle.terms.specs.Term.{Term, Terms, var, app, nil, cons, Subst, sub, subs, comp, Occ, Occs}
use Rattle.terms.proofs.Substs.{sub_comp, sub_var, sub_agree}

-- σ is in the set, and σ followed by any member of the set is that member
pub record Solution (U : Subst → Type 0) (σ : Subst) : Type 0 where
  pub solves : U σ
  pub absorbs : (τ : Subst) → U τ → comp σ τ ≡ τ

-- composition is associative
pub comp_comp : (σ ρ τ : Subst) → comp (comp σ ρ) τ ≡ comp σ (comp ρ τ)
comp_comp σ ρ τ = fun_ext (λ x. sub_comp (σ x) ρ τ)

-- where nothing is asked, every variable stands for itself
pub solution_of_all : {U : Subst → Type 0} → ((τ : Subst) → U τ) → Solution U var
solution_of_all all = record { solves = all var; absorbs = λ τ u. refl }

-- a set with the same members has the same solutions
pub solution_for : {U U' : Subst → Type 0} {σ : Subst} → ((τ : Subst) → U τ → U' τ) → ((τ : Subst) → U' τ → U τ) → Solution U σ → Solution U' σ
solution_for {U} {U'} {σ} to from s = record { solves = to σ s.solves; absorbs = λ τ u. s.absorbs τ (from τ u) }

-- one equation after another: the second is solved under the first one's solution
pub solution_then : {U W : Subst → Type 0} {σ ρ : Subst} → ((τ θ : Subst) → U τ → U (comp τ θ))
    → Solution U σ → Solution (λ τ. W (comp σ τ)) ρ → Solution (λ τ. U τ × W τ) (comp σ ρ)
solution_then {U} {W} {σ} {ρ} under s r =
    record {
      solves = (under σ ρ s.solves, r.solves);
      absorbs = λ τ u.
          let e : comp σ τ ≡ τ = s.absorbs τ u.0 in
          comp_comp σ ρ τ ∙ ap (comp σ) (r.absorbs τ (subst W (sym e) u.1)) ∙ e;
    }

-- t for the variable x, the others as they are
abbrev pub instead : {x v : ℕ} → Dec (v ≡ x) → Term → Term
instead {x} {v} (yes e) t = t
instead {x} {v} (no n) t = var v

abbrev pub bind : ℕ → Term → Subst
bind x t v = instead (ℕ_discrete v x) t

pub bind_same : (x : ℕ) (t : Term) → bind x t x ≡ t
bind_same x t = at (ℕ_discrete x x)
  where
    at : (d : Dec (x ≡ x)) → instead d t ≡ t
    at (yes e) = refl
    at (no n) = absurd (n refl)

pub bind_other : (x v : ℕ) (t : Term) → (v ≡ x → ⊥) → bind x t v ≡ var v
bind_other x v t other = at (ℕ_discrete v x)
  where
    at : (d : Dec (v ≡ x)) → instead d t ≡ var v
    at (yes e) = absurd (other e)
    at (no n) = refl

-- a variable and a term without it: the variable stands for the term
pub solution_bind : (x : ℕ) (t : Term) → (Occ x t → ⊥) → Solution (λ τ. τ x ≡ sub t τ) (bind x t)
solution_bind x t fresh =
    record {
      solves = bind_same x t ∙ sym (sub_agree t (bind x t) var (λ v o. bind_other x v t (λ e. fresh (subst (λ (w : ℕ). Occ w t) e o))) ∙ sub_var t);
      absorbs = λ τ u. fun_ext (λ v. at τ u v (ℕ_discrete v x));
    }
  where
    at : (τ : Subst) → τ x ≡ sub t τ → (v : ℕ) (d : Dec (v ≡ x)) → sub (instead d t) τ ≡ τ v
    at τ u v (yes e) = sym u ∙ ap τ (sym e)
    at τ u v (no n) = refl

-- how many symbols and variables
abbrev mutual
  pub size : Term → ℕ
  size (var x) = zero
  size (app f ts) = suc (sizes ts)

  pub sizes : Terms → ℕ
  sizes nil = zero
  sizes (cons t ts) = size t + sizes ts

-- what a variable goes to is no larger than what a term goes to in which it occurs
mutual
  pub size_occ : (τ : Subst) (x : ℕ) (t : Term) → Occ x t → size (τ x) ≤ size (sub t τ)
  size_occ τ x (var y) o = let e : size (τ x) ≡ size (τ y) = ap (λ z. size (τ z)) o in omega arith
  size_occ τ x (app f ts) o = let h = sizes_occ τ x ts o in omega arith

  pub sizes_occ : (τ : Subst) (x : ℕ) (ts : Terms) → Occs x ts → size (τ x) ≤ sizes (subs ts τ)
  sizes_occ τ x nil o = absurd o
  sizes_occ τ x (cons t ts) (inl o) = let h = size_occ τ x t o in omega arith
  sizes_occ τ x (cons t ts) (inr o) = let h = sizes_occ τ x ts o in omega arith

-- "with the occurs check": no finite term is a proper part of itself
pub occurs_check : (x f : ℕ) (ts : Terms) → Occs x ts → (τ : Subst) → τ x ≡ sub (app f ts) τ → ⊥
occurs_check x f ts o τ e = let h = sizes_occ τ x ts o in let k : size (τ x) ≡ suc (sizes (subs ts τ)) = ap size e in omega arith
