-- Binding an unbound variable to the term at a place: the occurs check on the sets, the sets after it, and the store that it leaves.
use Prim.Native.Nat.{ℕ, zero, suc, ◌+◌, ◌≤◌, ◌<◌}
use mathlib.Core.Path.{◌≡◌, refl, sym, ap, ◌∙◌}
use mathlib.Core.Logic.{◌⊎◌, inl, inr, ◌↔◌, ⊎_elim}
use mathlib.Core.Option.{none, some, none-ne-some}
use mathlib.Core.List.{List, [], ◌∷◌}
use native.Mathlib.Decide.{ℕ_discrete, dec_lt}
use native.Mathlib.Omega.{arith}
use lib.ListN.{length, get_or, set}
use lib.Seq.{get_or-set_same, get_or-set_other}
use borrow.Author.Tests.{lt-ltb, le-ltb}
use Rattle.terms.specs.Term.{Term, var, Subst, sub, Occ}
use Rattle.terms.specs.Cells.{enc, Keeps, variables}
use Rattle.terms.specs.Mask.{Has}
use Rattle.terms.specs.Store.{no_place, terms_at, first_term, bound}
use Rattle.terms.specs.Unifying.{free}
use Rattle.terms.proofs.Substs.{sub_comp, occ_sub, sub_occ}
use Rattle.terms.proofs.Solutions.{bind, bind_same, bind_other}
use Rattle.terms.proofs.Walks.{Union}
use Rattle.terms.proofs.RunVariables.{in_run_occ}

-- the union of the sets of a term's variables is the set of what the term stands for
pub gained_right : (F sets : List ℕ) (base : ℕ) (t : Term) (σ : Subst) (u : ℕ) → base ≤ 16 → Keeps F t
    → ((v : ℕ) → Occ v t → v < variables)
    → ((x z : ℕ) → x < 32 → Has (get_or sets x 0) z ↔ Occ z (σ x)) → Union (enc t) base sets u
    → (z : ℕ) → Has u z ↔ Occ z (sub (sub t (λ v. var (base + v))) σ)
gained_right F sets base t σ u small k below right is z = (
  (λ b.
      let o = (is z).0 b in
      let q = (in_run_occ F o.0 t k).0 o.1 in
      rw sub_comp (sub_occ t (λ v. σ (base + v)) o.0 z q ((right (base + o.0) z (omega (arith, below o.0 q))).0 o.2))),
  (λ o.
      let q = occ_sub t (λ v. σ (base + v)) z (rw sub_comp at o) in
      (is z).1 (q.0, (in_run_occ F q.0 t k).1 q.1, (right (base + q.0) z (omega (arith, below q.0 q.1))).1 q.2)),
)

-- a variable's term, after x is bound to v
pub occ_bind : (x z : ℕ) (v w : Term) → Occ z (sub w (bind x v)) ↔ ((Occ z w × (z ≡ x → ⊥)) ⊎ (Occ x w × Occ z v))
occ_bind x z v w = (
  (λ o. let q = occ_sub w (bind x v) z o in there q.0 q.1 q.2 (ℕ_discrete q.0 x)),
  ⊎_elim
      (λ h. sub_occ w (bind x v) z z h.0 (rw (bind_other x z v h.1) refl))
      (λ h. sub_occ w (bind x v) x z h.0 (rw (bind_same x v) h.1)),
)
  where
    there : (y : ℕ) → Occ y w → Occ z (bind x v y) → Dec (y ≡ x) → (Occ z w × (z ≡ x → ⊥)) ⊎ (Occ x w × Occ z v)
    there y o b (yes e) = inr (rw e at o, rw (e, bind_same x v) at b)
    there y o b (no n) = let q : z ≡ y = rw (bind_other x y v n) at b in inl (rw q o, λ e. n (sym q ∙ e))

-- one variable fewer is unbound
pub fewer_free : (places : List ℕ) (x p : ℕ) → x < length places → no_place ≤ get_or places x no_place → p < no_place
    → suc (free (set places x p)) ≡ free places
fewer_free [] x p l h k = absurd (omega arith)
fewer_free (q ∷ qs) zero p l h k = rw (lt-ltb p no_place k, le-ltb q no_place h) refl
fewer_free (q ∷ qs) (suc x) p l h k = go (dec_lt q no_place) (fewer_free qs x p (omega arith) h k)
  where
    go : Dec (q < no_place) → suc (free (set qs x p)) ≡ free qs → suc (free (q ∷ set qs x p)) ≡ free (q ∷ qs)
    go (yes w) e = rw (lt-ltb q no_place w) e
    go (no w) e = rw (le-ltb q no_place (omega arith)) (ap suc e)

pub free_most : (places : List ℕ) → free places ≤ length places
free_most [] = omega arith
free_most (q ∷ qs) = go (dec_lt q no_place) (free_most qs)
  where
    go : Dec (q < no_place) → free qs ≤ length qs → free (q ∷ qs) ≤ suc (length qs)
    go (yes w) e = rw (lt-ltb q no_place w) (omega arith)
    go (no w) e = rw (le-ltb q no_place (omega arith)) (omega arith)

-- what is bound after one more binding
module _ (F a b places : List ℕ) (x p : ℕ) (within : x < length places) where
  pub bound_now : p < no_place → bound F a b (set places x p) x ≡ some (first_term (terms_at F a b p))
  bound_now k = rw (get_or-set_same places x p no_place within, lt-ltb p no_place k) refl

  pub bound_elsewhere : (y : ℕ) → (y ≡ x → ⊥) → bound F a b (set places x p) y ≡ bound F a b places y
  bound_elsewhere y n = rw (get_or-set_other places x y p no_place n) refl

-- a variable that is bound to nothing has no place
pub unbound_place : (F a b places : List ℕ) (x : ℕ) → bound F a b places x ≡ none → no_place ≤ get_or places x no_place
unbound_place F a b places x e = go (dec_lt (get_or places x no_place) no_place)
  where
    go : Dec (get_or places x no_place < no_place) → no_place ≤ get_or places x no_place
    go (yes w) =
        let f : bound F a b places x ≡ some (first_term (terms_at F a b (get_or places x no_place))) = rw (lt-ltb (get_or places x no_place) no_place w) refl in
        absurd (none-ne-some _ (sym e ∙ f))
    go (no w) = omega arith

pub place_unbound : (F a b places : List ℕ) (x : ℕ) → no_place ≤ get_or places x no_place → bound F a b places x ≡ none
place_unbound F a b places x h = rw (le-ltb (get_or places x no_place) no_place h) refl
