-- Why unification ends: a weight of the unbound variables and of the cells left when the bindings are written out.
use Prim.Native.Nat.{ℕ, zero, suc, ◌+◌, ◌-◌, ◌*◌, ◌≤◌, ◌<◌}
use mathlib.Core.Path.{◌≡◌, refl, sym, ap, ap₂, subst, ◌∙◌}
use mathlib.Core.Option.{none, some}
use mathlib.Core.List.{List, append-nil}
use Prim.Native.Nat.{suc-le-suc}
use native.Mathlib.Nat.{le_trans, mul-le-mul, mul-le-mul_right, suc-mul, zero-add, suc-add, le-mul_of_pos_right}
use native.Mathlib.Omega.{arith}
use lib.ListN.{length, length-append}
use Rattle.terms.specs.Term.{Term, Terms, var, app, nil, cons, Subst}
use Rattle.terms.specs.Cells.{enc, encs, atom_cells}
use Rattle.terms.specs.Store.{bound, Stands, StandAll, unbound, followed, node, done, more}
use Rattle.terms.specs.Unifying.{steps, steps_all, free, most, RightStore}
use Rattle.terms.proofs.Standing.{BoundTerms, stands_sub, stand_subs, bound_follows}

-- how many steps it takes to find what terms stand for, tried for at most k steps
unfoldable mutual
  pub reach : ℕ → BoundTerms → Term → ℕ
  reach zero b t = zero
  reach (suc k) b (var x) = elim (b x) [ none ↦ 1 | some t ↦ suc (reach k b t) ]
  reach (suc k) b (app f ts) = suc (reach_all k b ts)

  pub reach_all : ℕ → BoundTerms → Terms → ℕ
  reach_all zero b ts = zero
  reach_all (suc k) b nil = 1
  reach_all (suc k) b (cons t ts) = reach k b t + reach_all k b ts

-- every finding takes a step at least
steps_some : {b : BoundTerms} {t u : Term} (d : Stands b t u) → 1 ≤ steps d
steps_some (unbound e) = omega arith
steps_some (followed e d) = omega arith
steps_some (node ds) = omega arith

all_steps_some : {b : BoundTerms} {ts us : Terms} (d : StandAll b ts us) → 1 ≤ steps_all d
all_steps_some done = omega arith
all_steps_some (more d ds) = omega (arith, steps_some d)

-- with enough steps allowed it is the number of steps that it takes
mutual
  unfolding reach

  pub reach_steps : {b : BoundTerms} {t u : Term} (d : Stands b t u) (k : ℕ) → steps d ≤ k → reach k b t ≡ steps d
  reach_steps (unbound e) zero h = absurd (omega arith)
  reach_steps (unbound e) (suc k) h = (rw e refl)
  reach_steps (followed e d) zero h = absurd (omega arith)
  reach_steps (followed e d) (suc k) h = (rw e (ap suc (reach_steps d k (omega arith))))
  reach_steps (node ds) zero h = absurd (omega arith)
  reach_steps (node ds) (suc k) h = (ap suc (reach_all_steps ds k (omega arith)))

  pub reach_all_steps : {b : BoundTerms} {ts us : Terms} (d : StandAll b ts us) (k : ℕ) → steps_all d ≤ k → reach_all k b ts ≡ steps_all d
  reach_all_steps done zero h = absurd (omega arith)
  reach_all_steps done (suc k) h = refl
  reach_all_steps (more d ds) zero h = absurd (omega (arith, steps_some d))
  reach_all_steps (more d ds) (suc k) h =
      (ap₂ ◌+◌ (reach_steps d k (omega (arith, all_steps_some ds))) (reach_all_steps ds k (omega (arith, steps_some d))))

-- however it is found, it takes as many steps
steps_once : {b : BoundTerms} {t u w : Term} (d : Stands b t u) (e : Stands b t w) → steps d ≡ steps e
steps_once d e = sym (reach_steps d (steps d + steps e) (omega arith)) ∙ reach_steps e (steps d + steps e) (omega arith)

-- more steps than the terms of an atom can take; and more than those of two atoms together
enough : ℕ
enough = suc (atom_cells * suc (suc (most 32)))

factor : ℕ
factor = suc (enough + enough)

most_one : (k : ℕ) → 1 ≤ most k
unfolding most
most_one zero = omega arith
most_one (suc k) = le_trans (most_one k) (le-mul_of_pos_right (most k) (omega arith))

most_grows : (k n : ℕ) → most k ≤ most (n + k)
unfolding most
most_grows k zero = rw zero-add (omega arith)
most_grows k (suc n) = rw suc-add (le_trans (most_grows k n) (le-mul_of_pos_right (most (n + k)) (omega arith)))

most_most : (k : ℕ) → k ≤ 32 → most k ≤ most 32
most_most k h = let e : 32 - k + k ≡ 32 = omega arith in subst (λ (n : ℕ). most k ≤ most n) e (most_grows k (32 - k))

-- the weight of two lists of terms under a store
pub weight : List ℕ → BoundTerms → Terms → Terms → ℕ
weight places b ss ts = free places * factor + (reach_all enough b ss + reach_all enough b ts)

module _ (F a b places sets : List ℕ) (σ : Subst) (K : RightStore F a b places sets σ) where
  -- what terms of an atom stand for is found in fewer steps than are tried
  found_all : (ts : Terms) → length (encs ts) ≤ atom_cells
      → (reach_all enough (bound F a b places) ts ≡ steps_all (stand_subs (bound F a b places) σ (most (32 - free places)) K.full ts).0)
      × (reach_all enough (bound F a b places) ts ≤ enough)
  unfolding enough
  found_all ts h =
      let r = stand_subs (bound F a b places) σ (most (32 - free places)) K.full ts in
      let m : steps_all r.0 ≤ suc (atom_cells * suc (suc (most 32))) =
      le_trans r.1 (suc-le-suc (mul-le-mul h (suc-le-suc (suc-le-suc (most_most (32 - free places) (omega arith)))))) in
      let e = reach_all_steps r.0 (suc (atom_cells * suc (suc (most 32)))) m in
      (e, rw e m)

  -- a bound variable weighs more than what it is bound to
  pub lighter_bound : (x : ℕ) (t : Term) (ts : Terms) → bound F a b places x ≡ some t → length (enc t) ≤ atom_cells
      → weight places (bound F a b places) (cons t nil) ts < weight places (bound F a b places) (cons (var x) nil) ts
  unfolding weight stands_sub
  lighter_bound x t ts e h =
      let d = (stands_sub (bound F a b places) σ (most (32 - free places)) K.full t).0 in
      let q = bound_follows (bound F a b places) x t (σ x) (K.full.stands x) e in
      let l : length (encs (cons t nil)) ≤ atom_cells = rw append-nil h in
      omega (arith, (found_all (cons (var x) nil) (omega arith)).0, (found_all (cons t nil) l).0, q.1, steps_once q.0 d)

  pub lighter_bound_second : (x : ℕ) (t : Term) (ss : Terms) → bound F a b places x ≡ some t → length (enc t) ≤ atom_cells
      → weight places (bound F a b places) ss (cons t nil) < weight places (bound F a b places) ss (cons (var x) nil)
  unfolding weight stands_sub
  lighter_bound_second x t ss e h =
      let d = (stands_sub (bound F a b places) σ (most (32 - free places)) K.full t).0 in
      let q = bound_follows (bound F a b places) x t (σ x) (K.full.stands x) e in
      let l : length (encs (cons t nil)) ≤ atom_cells = rw append-nil h in
      omega (arith, (found_all (cons (var x) nil) (omega arith)).0, (found_all (cons t nil) l).0, q.1, steps_once q.0 d)

  -- two functions' terms weigh more than their arguments
  pub lighter_arguments : (f g : ℕ) (us vs : Terms) → length (encs us) < atom_cells → length (encs vs) < atom_cells
      → suc (weight places (bound F a b places) us vs) < weight places (bound F a b places) (cons (app f us) nil) (cons (app g vs) nil)
  unfolding weight stands_sub
  lighter_arguments f g us vs h k =
      let l : length (encs (cons (app f us) nil)) ≤ atom_cells = rw (append-nil (encs us)) h in
      let m : length (encs (cons (app g vs) nil)) ≤ atom_cells = rw (append-nil (encs vs)) k in
      omega (arith, (found_all us (omega arith)).0, (found_all vs (omega arith)).0, (found_all (cons (app f us) nil) l).0, (found_all (cons (app g vs) nil) m).0)

  -- the first terms weigh no more than all
  pub lighter_first : (s t : Term) (ss ts : Terms) → length (encs (cons s ss)) ≤ atom_cells → length (encs (cons t ts)) ≤ atom_cells
      → weight places (bound F a b places) (cons s nil) (cons t nil) ≤ weight places (bound F a b places) (cons s ss) (cons t ts)
  unfolding weight stands_sub
  lighter_first s t ss ts h k =
      let ls : length (encs (cons s nil)) ≤ atom_cells = rw append-nil (omega (arith, simp length-append at h)) in
      let lt : length (encs (cons t nil)) ≤ atom_cells = rw append-nil (omega (arith, simp length-append at k)) in
      let ms = all_steps_some (stand_subs (bound F a b places) σ (most (32 - free places)) K.full ss).0 in
      let mt = all_steps_some (stand_subs (bound F a b places) σ (most (32 - free places)) K.full ts).0 in
      omega (arith, (found_all (cons s nil) ls).0, (found_all (cons t nil) lt).0, (found_all (cons s ss) h).0, (found_all (cons t ts) k).0)

  -- the others weigh less than all
  pub lighter_others : (s t : Term) (ss ts : Terms) → length (encs (cons s ss)) ≤ atom_cells → length (encs (cons t ts)) ≤ atom_cells
      → weight places (bound F a b places) ss ts < weight places (bound F a b places) (cons s ss) (cons t ts)
  unfolding weight stands_sub
  lighter_others s t ss ts h k =
      let ls : length (encs ss) ≤ atom_cells = omega (arith, simp length-append at h) in
      let lt : length (encs ts) ≤ atom_cells = omega (arith, simp length-append at k) in
      let ms = steps_some (stands_sub (bound F a b places) σ (most (32 - free places)) K.full s).0 in
      omega (arith, (found_all ss ls).0, (found_all ts lt).0, (found_all (cons s ss) h).0, (found_all (cons t ts) k).0)

-- with fewer unbound variables everything weighs less
pub lighter_fewer : (F a b places sets places' sets' : List ℕ) (σ σ' : Subst) → RightStore F a b places sets σ → RightStore F a b places' sets' σ'
    → free places' < free places → (ss ts ss' ts' : Terms) → length (encs ss') ≤ atom_cells → length (encs ts') ≤ atom_cells
    → weight places' (bound F a b places') ss' ts' < weight places (bound F a b places) ss ts
unfolding weight factor
lighter_fewer F a b places sets places' sets' σ σ' K K' fewer ss ts ss' ts' h k =
    let m : suc (free places') * suc (enough + enough) ≤ free places * suc (enough + enough) = mul-le-mul_right (suc (enough + enough)) fewer in
    let e = suc-mul (free places') (suc (enough + enough)) in
    omega (arith, (found_all F a b places' sets' σ' K' ss' h).1, (found_all F a b places' sets' σ' K' ts' k).1)
