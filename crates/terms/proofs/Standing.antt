-- What terms stand for: with every variable followed, and after one more variable is bound.
use Prim.Native.Nat.{ℕ, suc, ◌+◌, ◌*◌, ◌≤◌}
use mathlib.Core.Path.{◌≡◌, refl, sym, ap, ap₂, subst, ◌∙◌}
use mathlib.Core.Logic.{inl, inr}
use mathlib.Core.Option.{Option, none, some, none-ne-some, some-injective}
use lib.ListN.{length, length-append}
use native.Mathlib.Decide.{ℕ_discrete}
use native.Mathlib.Nat.{mul-le-mul_right, add-mul, suc-mul, one-mul, le_trans}
use native.Mathlib.Omega.{arith}
use Rattle.terms.specs.Term.{Term, Terms, var, app, nil, cons, Subst, sub, subs, Occ, Occs}
use Rattle.terms.proofs.Solutions.{bind, bind_same, bind_other}
use Rattle.terms.specs.Cells.{enc, encs}
use Rattle.terms.specs.Store.{Stands, StandAll, unbound, followed, node, done, more}
use Rattle.terms.specs.Unifying.{steps, steps_all, Full}

abbrev pub BoundTerms : Type 0
BoundTerms = ℕ → Option Term

-- where every variable stands for something, so does every term, in at most so many steps for each of its cells
unfoldable mutual
  pub stands_sub : (b : BoundTerms) (σ : Subst) (c : ℕ) → Full b σ c → (t : Term)
      → (d : Stands b t (sub t σ)) × (steps d ≤ length (enc t) * suc (suc c))
  stands_sub b σ c F (var x) = (F.stands x, rw one-mul (omega (arith, F.few x)))
  stands_sub b σ c F (app f ts) =
      let r = stand_subs b σ c F ts in
      (node r.0, rw suc-mul (omega (arith, r.1)))

  pub stand_subs : (b : BoundTerms) (σ : Subst) (c : ℕ) → Full b σ c → (ts : Terms)
      → (d : StandAll b ts (subs ts σ)) × (steps_all d ≤ suc (length (encs ts) * suc (suc c)))
  stand_subs b σ c F nil = (done, omega arith)
  stand_subs b σ c F (cons t ts) =
      let q = stands_sub b σ c F t in
      let r = stand_subs b σ c F ts in
      (more q.0 r.0, rw (length-append, add-mul) (omega (arith, q.1, r.1)))

-- what a term stands for in full has only unbound variables
mutual
  pub stands_unbound : {b : BoundTerms} {t u : Term} → Stands b t u → (z : ℕ) → Occ z u → b z ≡ none
  stands_unbound {b} (unbound e) z o = ap b o ∙ e
  stands_unbound (followed e d) z o = stands_unbound d z o
  stands_unbound (node ds) z o = stand_unbound ds z o

  pub stand_unbound : {b : BoundTerms} {ts us : Terms} → StandAll b ts us → (z : ℕ) → Occs z us → b z ≡ none
  stand_unbound done z o = absurd o
  stand_unbound (more d ds) z (inl o) = stands_unbound d z o
  stand_unbound (more d ds) z (inr o) = stand_unbound ds z o

-- an unbound variable stands for itself
pub unbound_itself : (b : BoundTerms) (x : ℕ) (u : Term) → Stands b (var x) u → b x ≡ none → u ≡ var x
unbound_itself b x u (unbound e) h = refl
unbound_itself b x u (followed {t = t} e d) h = absurd (none-ne-some t (sym h ∙ e))

-- a bound variable stands for what its term stands for, one step further
pub bound_follows : (b : BoundTerms) (x : ℕ) (t u : Term) (d : Stands b (var x) u) → b x ≡ some t
    → (e : Stands b t u) × (steps d ≡ suc (steps e))
bound_follows b x t u (unbound e) h = absurd (none-ne-some t (sym e ∙ h))
bound_follows b x t u (followed {t = s} e d) h = go (some-injective s t (sym e ∙ h))
  where
    go : s ≡ t → (e : Stands b t u) × (suc (steps d) ≡ suc (steps e))
    go q = subst (λ (r : Term). (e : Stands b r u) × (suc (steps d) ≡ suc (steps e))) q (d, refl)

-- one more binding: x, unbound before, is bound to t, which stands for v; x does not occur in v
module _ (b b' : BoundTerms) (x : ℕ) (t v : Term) (was : b x ≡ none) (now-bound : b' x ≡ some t)
    (elsewhere : (y : ℕ) → (y ≡ x → ⊥) → b' y ≡ b y) (stood : Stands b t v) (absent : Occ x v → ⊥) where
  mutual
    pub stands_still : {s w : Term} (d : Stands b s w) → (Occ x w → ⊥) → (e : Stands b' s w) × (steps e ≡ steps d)
    stands_still (unbound {x = y} e) h = (unbound (elsewhere y (λ q. h (sym q)) ∙ e), refl)
    stands_still (followed {x = y} {t = r} e d) h =
        let q = stands_still d h in
        (followed (elsewhere y (λ z. none-ne-some r (sym was ∙ ap b (sym z) ∙ e)) ∙ e) q.0, ap suc q.1)
    stands_still (node ds) h = let q = stand_still ds h in (node q.0, ap suc q.1)

    pub stand_still : {ss ws : Terms} (d : StandAll b ss ws) → (Occs x ws → ⊥) → (e : StandAll b' ss ws) × (steps_all e ≡ steps_all d)
    stand_still done h = (done, refl)
    stand_still (more d ds) h =
        let q = stands_still d (λ o. h (inl o)) in
        let r = stand_still ds (λ o. h (inr o)) in
        (more q.0 r.0, ap₂ ◌+◌ q.1 r.1)

  bound_now : (y : ℕ) → b y ≡ none → Dec (y ≡ x) → (e : Stands b' (var y) (bind x v y)) × (steps e ≤ 1 * suc (steps stood))
  bound_now y e (yes q) =
      rw (q, bind_same x v)
      (followed now-bound (stands_still stood absent).0, rw one-mul (omega (arith, (stands_still stood absent).1)))
  bound_now y e (no f) = rw (bind_other x y v f) (unbound (elsewhere y f ∙ e), rw one-mul (omega arith))

  mutual
    pub stands_more : {s w : Term} (d : Stands b s w)
        → (e : Stands b' s (sub w (bind x v))) × (steps e ≤ steps d * suc (steps stood))
    stands_more (unbound {x = y} e) = bound_now y e (ℕ_discrete y x)
    stands_more (followed {x = y} {t = r} e d) =
        let q = stands_more d in
        (followed (elsewhere y (λ z. none-ne-some r (sym was ∙ ap b (sym z) ∙ e)) ∙ e) q.0, rw suc-mul (omega (arith, q.1)))
    stands_more (node ds) = let q = stand_more ds in (node q.0, rw suc-mul (omega (arith, q.1)))

    pub stand_more : {ss ws : Terms} (d : StandAll b ss ws)
        → (e : StandAll b' ss (subs ws (bind x v))) × (steps_all e ≤ steps_all d * suc (steps stood))
    stand_more done = (done, rw one-mul (omega arith))
    stand_more (more d ds) =
        let q = stands_more d in
        let r = stand_more ds in
        (more q.0 r.0, rw add-mul (omega (arith, q.1, r.1)))

  -- every variable still stands for something
  pub full_more : (σ : Subst) (c : ℕ) → Full b σ c → Full b' (λ y. sub (σ y) (bind x v)) (c * suc (steps stood))
  full_more σ c F =
      record {
        stands = λ y. (stands_more (F.stands y)).0;
        few = λ y. le_trans (stands_more (F.stands y)).1 (mul-le-mul_right (suc (steps stood)) (F.few y));
      }
