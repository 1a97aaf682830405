-- A space of variables as a list, less one variable, and the terms within it: what unification counts down.
use Prim.Native.Nat.{ℕ, suc, ◌≤◌, ◌<◌}
use native.Mathlib.Omega.{arith}
use native.Mathlib.Decide.{ℕ_discrete}
use mathlib.Core.Path.{◌≡◌, sym, ◌∙◌, subst}
use mathlib.Core.Logic.{◌⊎◌, inl, inr}
use mathlib.Core.List.Memᴰ
use mathlib.Core.List.{List, [], ◌∷◌, Memᴰ}
use lib.ListN.{length}
use Rattle.terms.specs.Term.{Term, Terms, var, Subst, sub, subs, comp, All, Alls, Occ}
use Rattle.terms.proofs.Substs.{all_sub, alls_sub, all_occ, occ_all, alls_occ, occs_all}
use Rattle.terms.proofs.Solutions.{bind, instead}

-- one variable more, unless it is x
abbrev pub unless : {x v : ℕ} → Dec (v ≡ x) → List ℕ → List ℕ
unless (yes e) vs = vs
unless {x} {v} (no n) vs = v ∷ vs

-- the space less x
abbrev pub without : ℕ → List ℕ → List ℕ
without x [] = []
without x (v ∷ vs) = unless (ℕ_discrete v x) (without x vs)

without_within : (x z : ℕ) (vs : List ℕ) → Memᴰ z (without x vs) → Memᴰ z vs
without_within x z [] m = m
without_within x z (v ∷ vs) m = at (without_within x z vs) (ℕ_discrete v x) m
  where
    kept : (Memᴰ z (without x vs) → Memᴰ z vs) → (z ≡ v) ⊎ Memᴰ z (without x vs) → Memᴰ z (v ∷ vs)
    kept below (inl e) = Memᴰ.head e
    kept below (inr m') = Memᴰ.tail (below m')

    at : (Memᴰ z (without x vs) → Memᴰ z vs) → (d : Dec (v ≡ x)) → Memᴰ z (unless d (without x vs)) → Memᴰ z (v ∷ vs)
    at below (yes e) m' = Memᴰ.tail (below m')
    at below (no n) m' = kept below (Memᴰ.cases_cons m')

within_without : (x z : ℕ) (vs : List ℕ) → (z ≡ x → ⊥) → Memᴰ z vs → Memᴰ z (without x vs)
within_without x z [] other m = m
within_without x z (v ∷ vs) other m = at (within_without x z vs other) (ℕ_discrete v x) (Memᴰ.cases_cons m)
  where
    at : (Memᴰ z vs → Memᴰ z (without x vs)) → (d : Dec (v ≡ x)) → (z ≡ v) ⊎ Memᴰ z vs → Memᴰ z (unless d (without x vs))
    at below (yes e) (inl q) = absurd (other (q ∙ e))
    at below (yes e) (inr m') = below m'
    at below (no n) (inl q) = Memᴰ.head q
    at below (no n) (inr m') = Memᴰ.tail (below m')

without_no_longer : (x : ℕ) (vs : List ℕ) → length (without x vs) ≤ length vs
without_no_longer x [] = omega arith
without_no_longer x (v ∷ vs) = at (without_no_longer x vs) (ℕ_discrete v x)
  where
    at : length (without x vs) ≤ length vs → (d : Dec (v ≡ x)) → length (unless d (without x vs)) ≤ suc (length vs)
    at below (yes e) = omega arith
    at below (no n) = omega arith

-- a space less one of its variables is shorter
pub without_shorter : (x : ℕ) (vs : List ℕ) → Memᴰ x vs → length (without x vs) < length vs
without_shorter x [] m = absurd (Memᴰ.not-nil m)
without_shorter x (v ∷ vs) m = at (without_no_longer x vs) (without_shorter x vs) (ℕ_discrete v x) (Memᴰ.cases_cons m)
  where
    at : length (without x vs) ≤ length vs → (Memᴰ x vs → length (without x vs) < length vs) → (d : Dec (v ≡ x))
        → (x ≡ v) ⊎ Memᴰ x vs → length (unless d (without x vs)) < suc (length vs)
    at longer below (yes e) q = omega arith
    at longer below (no n) (inl q) = absurd (n (sym q))
    at longer below (no n) (inr m') = let h = below m' in omega arith

-- all variables of the term are in the space
abbrev pub Within : List ℕ → Term → Type 0
Within vs t = All (λ z. Memᴰ z vs) t

abbrev pub Withins : List ℕ → Terms → Type 0
Withins vs ts = Alls (λ z. Memᴰ z vs) ts

-- the substitution takes the space's variables to terms within another
pub record Into (vs ws : List ℕ) (σ : Subst) : Type 0 where
  pub goes : (v : ℕ) → Memᴰ v vs → Within ws (σ v)

pub within_under : {vs ws : List ℕ} {σ : Subst} → Into vs ws σ → (t : Term) → Within vs t → Within ws (sub t σ)
within_under {vs} {ws} {σ} into t h =
    rw all_sub (occ_all (λ x. Within ws (σ x)) t (λ x o. into.goes x (all_occ (λ z. Memᴰ z vs) t h x o)))

pub withins_under : {vs ws : List ℕ} {σ : Subst} → Into vs ws σ → (ts : Terms) → Withins vs ts → Withins ws (subs ts σ)
withins_under {vs} {ws} {σ} into ts h =
    rw alls_sub (occs_all (λ x. Within ws (σ x)) ts (λ x o. into.goes x (alls_occ (λ z. Memᴰ z vs) ts h x o)))

pub into_then : {us vs ws : List ℕ} {σ ρ : Subst} → Into us vs σ → Into vs ws ρ → Into us ws (comp σ ρ)
into_then {σ = σ} p q = record { goes = λ v m. within_under q (σ v) (p.goes v m) }

pub into_itself : (vs : List ℕ) → Into vs vs var
into_itself vs = record { goes = λ v m. m }

pub into_less : {us : List ℕ} {σ : Subst} (vs : List ℕ) (x : ℕ) → Into us (without x vs) σ → Into us vs σ
into_less {us} {σ} vs x p =
    record {
      goes = λ v m.
          occ_all (λ z. Memᴰ z vs) (σ v)
          (λ z o. without_within x z vs (all_occ (λ w. Memᴰ w (without x vs)) (σ v) (p.goes v m) z o));
    }

-- binding x to a term without x takes the space to the space less x
pub into_bind : (vs : List ℕ) (x : ℕ) (t : Term) → Within vs t → (Occ x t → ⊥) → Into vs (without x vs) (bind x t)
into_bind vs x t h fresh = record { goes = λ v m. at v m (ℕ_discrete v x) }
  where
    at : (v : ℕ) → Memᴰ v vs → (d : Dec (v ≡ x)) → Within (without x vs) (instead d t)
    at v m (yes e) =
        occ_all (λ z. Memᴰ z (without x vs)) t
        (λ z o. within_without x z vs (λ q. fresh (subst (λ (w : ℕ). Occ w t) q o)) (all_occ (λ w. Memᴰ w vs) t h z o))
    at v m (no n) = within_without x v vs n m
