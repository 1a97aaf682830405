-- The steps of unification: what each finds of the solutions of the store, and the store that it leaves.
use Prim.Native.Nat.{ℕ, ◌<◌}
use mathlib.Core.Path.{◌≡◌, refl, sym, ap, ap₂, ◌∙◌}
use mathlib.Core.Logic.{◌⊎◌, inl, inr, ◌↔◌}
use mathlib.Core.Bool.{Bool, true, false}
use mathlib.Core.Option.{some}
use mathlib.Core.List.{List}
use native.Mathlib.Omega.{arith}
use Rattle.terms.specs.Term.{Term, Terms, app, nil, cons, Subst, sub, subs}
use Rattle.terms.specs.Store.{Stands, StandAll, unbound, followed, node, done, more}
use Rattle.terms.specs.Unifying.{Full, free, RightStore, Solves, Outcome}
use Rattle.terms.proofs.Standing.{BoundTerms, stands_sub, unbound_itself, bound_follows}
use Rattle.terms.proofs.Stores.{solves_sub}

-- what a term stands for in full is one term
mutual
  pub stands_once : {b : BoundTerms} {t u w : Term} → Stands b t u → Stands b t w → u ≡ w
  stands_once {b} {t} {u} {w} (unbound {x = x} e) d = sym (unbound_itself b x w d e)
  stands_once {b} {t} {u} {w} (followed {x = x} {t = s} e c) d = stands_once c (bound_follows b x s w d e).0
  stands_once (node {f = f} cs) (node ds) = ap (app f) (stand_once cs ds)

  pub stand_once : {b : BoundTerms} {ts us ws : Terms} → StandAll b ts us → StandAll b ts ws → us ≡ ws
  stand_once done done = refl
  stand_once (more c cs) (more d ds) = ap₂ cons (stands_once c d) (stand_once cs ds)

-- a bound variable is, under every solution, the term that it is bound to
pub bound_same : (b : BoundTerms) (σ : Subst) (c : ℕ) → Full b σ c → (x : ℕ) (t : Term) → b x ≡ some t → (τ : Subst) → Solves σ τ → τ x ≡ sub t τ
bound_same b σ c F x t e τ s =
    let d = (bound_follows b x t (σ x) (F.stands x) e).0 in
    let q : σ x ≡ sub t σ = stands_once d (stands_sub b σ c F t).0 in
    sym (s x) ∙ ap (λ (u : Term). sub u τ) q ∙ solves_sub σ τ s t

-- an outcome for terms is one for terms that every solution makes the same
pub outcome_for : (F a b places sets : List ℕ) (ss ts ss' ts' : Terms) (r : Bool) (places' sets' : List ℕ)
    → ((σ : Subst) → RightStore F a b places sets σ → (τ : Subst) → Solves σ τ → (subs ss τ ≡ subs ts τ) ↔ (subs ss' τ ≡ subs ts' τ))
    → Outcome F a b places sets ss ts r places' sets' → Outcome F a b places sets ss' ts' r places' sets'
outcome_for F a b places sets ss ts ss' ts' true places' sets' same o σ K =
    let j = o σ K in
    record {
      after = j.after;
      store = j.store;
      solves = λ τ. (
        (λ h. let q = (j.solves τ).0 h in (q.0, (same σ K τ q.0).0 q.1)),
        (λ h. (j.solves τ).1 (h.0, (same σ K τ h.0).1 h.1)),
      );
      fewer = j.fewer;
    }
outcome_for F a b places sets ss ts ss' ts' false places' sets' same o σ K = λ τ s e. o σ K τ s ((same σ K τ s).1 e)

-- terms that are the same under every solution: nothing to do
pub outcome_same : (F a b places sets : List ℕ) (ss ts : Terms)
    → ((σ : Subst) → RightStore F a b places sets σ → (τ : Subst) → Solves σ τ → subs ss τ ≡ subs ts τ)
    → Outcome F a b places sets ss ts true places sets
outcome_same F a b places sets ss ts same σ K =
    record {
      after = σ;
      store = K;
      solves = λ τ. (λ s. (s, same σ K τ s), λ h. h.0);
      fewer = inr (refl, refl);
    }

-- a first pair, and then the others
pub outcome_then : (F a b places sets : List ℕ) (s t : Term) (ss ts : Terms) (places' sets' : List ℕ) (r : Bool) (places'' sets'' : List ℕ)
    → Outcome F a b places sets (cons s nil) (cons t nil) true places' sets'
    → Outcome F a b places' sets' ss ts r places'' sets''
    → Outcome F a b places sets (cons s ss) (cons t ts) r places'' sets''
outcome_then F a b places sets s t ss ts places' sets' true places'' sets'' o o' σ K =
    let j = o σ K in
    let k = o' j.after j.store in
    record {
      after = k.after;
      store = k.store;
      solves = λ τ. (
        (λ h.
            let q = (k.solves τ).0 h in
            let w = (j.solves τ).0 q.0 in
            let e : sub s τ ≡ sub t τ = first_same w.1 in
            (w.0, ap₂ cons e q.1)),
        (λ h.
            let e : sub s τ ≡ sub t τ = first_same h.1 in
            (k.solves τ).1 ((j.solves τ).1 (h.0, ap (λ (u : Term). cons u nil) e), others_same h.1)),
      );
      fewer = go j.fewer k.fewer;
    }
  where
    first_same : {u w : Term} {us ws : Terms} → cons u us ≡ cons w ws → u ≡ w
    first_same e = cc

    others_same : {u w : Term} {us ws : Terms} → cons u us ≡ cons w ws → us ≡ ws
    others_same e = cc

    go : (free places' < free places) ⊎ ((places' ≡ places) × (sets' ≡ sets)) → (free places'' < free places') ⊎ ((places'' ≡ places') × (sets'' ≡ sets'))
        → (free places'' < free places) ⊎ ((places'' ≡ places) × (sets'' ≡ sets))
    go (inl p) (inl q) = inl (omega arith)
    go (inl p) (inr q) = inl (rw q.0 p)
    go (inr p) (inl q) = inl (rw p.0 at q)
    go (inr p) (inr q) = inr (q.0 ∙ p.0, q.1 ∙ p.1)
outcome_then F a b places sets s t ss ts places' sets' false places'' sets'' o o' σ K =
    let j = o σ K in
    λ τ h e. o' j.after j.store τ ((j.solves τ).1 (h, ap (λ (u : Term). cons u nil) (first_same e))) (others_same e)
  where
    first_same : {u w : Term} {us ws : Terms} → cons u us ≡ cons w ws → u ≡ w
    first_same e = cc

    others_same : {u w : Term} {us ws : Terms} → cons u us ≡ cons w ws → us ≡ ws
    others_same e = cc

-- a first pair that no solution makes equal
pub outcome_parted : (F a b places sets : List ℕ) (s t : Term) (ss ts : Terms) (places' sets' places'' sets'' : List ℕ)
    → Outcome F a b places sets (cons s nil) (cons t nil) false places' sets' → Outcome F a b places sets (cons s ss) (cons t ts) false places'' sets''
outcome_parted F a b places sets s t ss ts places' sets' places'' sets'' o σ K τ h e =
    let q : sub s τ ≡ sub t τ = cc in
    o σ K τ h (ap (λ (u : Term). cons u nil) q)
