-- The sets of a store made anew from its bindings: the store has no cycle, so that its variables can be bound again in any order.
use Prim.Native.Nat.{ℕ, zero, suc, ◌+◌, ◌-◌, ◌≤◌, ◌<◌}
use mathlib.Core.Path.{◌≡◌, refl, sym, subst, ◌∙◌, fun_ext}
use mathlib.Core.Logic.{inl, inr}
use mathlib.Core.Option.{none, some, none-ne-some}
use mathlib.Core.List.{List}
use native.Mathlib.Nat.{le_refl}
use native.Mathlib.Decide.{ℕ_discrete, dec_lt}
use native.Mathlib.Omega.{arith}
use lib.ListN.{length, get_or, set, take, get_or-eq_default}
use borrow.Author.Tests.{lt-ltb}
use Rattle.terms.specs.Term.{Term, Terms, var, Subst, Occ, Occs}
use Rattle.terms.specs.Cells.{enc, Run}
use Rattle.terms.specs.Mask.{Has}
use Rattle.terms.specs.Walk.{cells_of}
use Rattle.terms.specs.Store.{no_place, cells_at, terms_at, first_term, bound, Stands, StandAll, unbound, followed, node, done, more}
use Rattle.terms.specs.Unified.{Unified, Bindings, StoreOf}
use Rattle.terms.specs.Unifying.{steps, steps_all, base_of, free, most, RightStore, AllReplaced}
use Rattle.terms.proofs.Walks.{Union}
use Rattle.terms.proofs.Standing.{BoundTerms, stands_sub, bound_follows}
use Rattle.terms.proofs.Stores.{extended}
use Rattle.terms.proofs.Joining.{stands_once}
use Rattle.terms.proofs.Standings.{next_term}
use Rattle.terms.proofs.Binding.{bound_now, bound_elsewhere, place_unbound}
use Rattle.terms.proofs.Parts.{same_inside}
use Rattle.terms.proofs.Bound.{itself, gained_set, store_bound}
use Rattle.terms.proofs.Atoms.{no_places, alone, store_at_first, no_place_at}

-- a store and a smaller one, whose bindings are among its own
module _ (b whole : BoundTerms) (among : (y : ℕ) (t : Term) → b y ≡ some t → whole y ≡ some t) (x : ℕ) where
  -- what x stands for is found on the way to what a term stands for, where x is in what the smaller store has for the term
  mutual
    found_inside : {t u w : Term} → Stands b t u → Occ x u → (d : Stands whole t w)
        → (v : Term) × (e : Stands whole (var x) v) × (steps e ≤ steps d)
    found_inside {w = w} (unbound e) o d = rw o (w, d, omega arith)
    found_inside {w = w} (followed {x = y} {t = t} e c) o d =
        let q = bound_follows whole y t w d (among y t e) in
        let i = found_inside c o q.0 in
        (i.0, i.1, omega (arith, i.2, q.1))
    found_inside (node cs) o (node ds) = let i = found_inside_all cs o ds in (i.0, i.1, omega (arith, i.2))

    found_inside_all : {ts us ws : Terms} → StandAll b ts us → Occs x us → (d : StandAll whole ts ws)
        → (v : Term) × (e : Stands whole (var x) v) × (steps e ≤ steps_all d)
    found_inside_all done o d = absurd o
    found_inside_all (more c cs) (inl o) (more d ds) = let i = found_inside c o d in (i.0, i.1, omega (arith, i.2))
    found_inside_all (more c cs) (inr o) (more d ds) = let i = found_inside_all cs o ds in (i.0, i.1, omega (arith, i.2))

  -- so x is not in what the smaller store has for the term that x is bound to: no way is shorter than itself
  no_cycle : {t u : Term} → whole x ≡ some t → Stands b t u → Occ x u → (n : ℕ) {w : Term} (d : Stands whole (var x) w) → steps d ≤ n → ⊥
  no_cycle {t} h c o zero {w} d l = omega (arith, (bound_follows whole x t w d h).1)
  no_cycle {t} h c o (suc n) {w} d l =
      let q = bound_follows whole x t w d h in
      let i = found_inside c o q.0 in
      no_cycle h c o n i.1 (omega (arith, i.2, q.1))

-- the store with the bindings of the first x variables alone, and its sets
pub record Refilled (F a b places sets : List ℕ) (x : ℕ) : Type 0 where
  pub filled : List ℕ
  pub σ : Subst
  pub store : RightStore F a b filled sets σ
  pub passed : (y : ℕ) → y < x → bound F a b filled y ≡ bound F a b places y
  pub to_come : (y : ℕ) → x ≤ y → bound F a b filled y ≡ none

module _ (F a b places : List ℕ) (S : StoreOf F a b places) where
  -- at first no variable is bound
  pub refilled_none : Refilled F a b places alone 0
  refilled_none =
      record {
        filled = no_places;
        σ = var;
        store = store_at_first F a b S.first_short S.second_short;
        passed = λ y h. absurd (omega arith);
        to_come = λ y h. place_unbound F a b no_places y (omega (arith, no_place_at y));
      }

  unified : Unified F a b S.A S.B places S.bindings.0
  unified = S.bindings.1

  -- a place as the code reads it
  read_place : (x : ℕ) → x < 32 → get_or places x no_place ≡ get_or places x 0
  read_place x h = same_inside places x no_place 0 (omega (arith, unified.all_places))

  -- a whole term stands where a variable is bound
  pub whole_there : (x p : ℕ) → x < 32 → p ≡ get_or places x 0 → p < no_place → Run F (cells_at a b p) 1
  whole_there x p h e l =
      let q : get_or places x no_place ≡ p = read_place x h ∙ sym e in
      let w = unified.whole x (rw q l) in
      rw q at w

  module _ (sets : List ℕ) (x : ℕ) (small : x < 32) (R : Refilled F a b places sets x) where
    -- an unbound variable leaves the store as it is
    pub refilled_over : no_place ≤ get_or places x 0 → Refilled F a b places sets (x + 1)
    refilled_over h =
        record {
          filled = R.filled;
          σ = R.σ;
          store = R.store;
          passed = λ y l. at y l (ℕ_discrete y x);
          to_come = λ y l. R.to_come y (omega arith);
        }
      where
        at : (y : ℕ) → y < x + 1 → Dec (y ≡ x) → bound F a b R.filled y ≡ bound F a b places y
        at y l (yes e) = rw e (R.to_come x (le_refl x) ∙ sym (place_unbound F a b places x (rw (read_place x small) h)))
        at y l (no n) = R.passed y (omega arith)

    module _ (p gained : ℕ) (is : p ≡ get_or places x 0) (is_place : p < no_place)
        (union : Union (take (cells_of F (cells_at a b p) 1) (cells_at a b p)) (base_of p) sets gained) where
      bound_here : bound F a b places x ≡ some (first_term (terms_at F a b p))
      bound_here = rw (read_place x small, ← is, lt-ltb p no_place is_place) refl

      run : Run F (cells_at a b p) 1
      run = whole_there x p small is is_place

      among : (y : ℕ) (t : Term) → bound F a b R.filled y ≡ some t → bound F a b places y ≡ some t
      among y t e = at (dec_lt y x)
        where
          at : Dec (y < x) → bound F a b places y ≡ some t
          at (yes h) = sym (R.passed y h) ∙ e
          at (no h) = absurd (none-ne-some t (sym (R.to_come y (omega arith)) ∙ e))

      none_yet : bound F a b R.filled x ≡ none
      none_yet = R.to_come x (le_refl x)

      union_whole : Union (enc (next_term F a b p 0 R.store.first_short run).term) (base_of p) sets gained
      union_whole = rw (next_term F a b p 0 R.store.first_short run).cut at union

      fresh : Has gained x → ⊥
      fresh h =
          let o = (gained_set F a b R.filled sets R.σ x p gained R.store small none_yet run is_place union_whole x).0 h in
          no_cycle (bound F a b R.filled) (bound F a b places) among x bound_here
          (stands_sub (bound F a b R.filled) R.σ (most (32 - free R.filled)) R.store.full (first_term (terms_at F a b p))).0 o
          (steps (unified.stands x)) (unified.stands x) (le_refl (steps (unified.stands x)))

      -- a bound variable is bound again
      pub refilled_more : (sets' : List ℕ) → AllReplaced x gained sets sets' → Refilled F a b places sets' (x + 1)
      refilled_more sets' replaced =
          record {
            filled = set R.filled x p;
            σ = extended R.σ x (first_term (terms_at F a b p))
                (itself F a b R.filled sets R.σ x p gained R.store small none_yet run is_place);
            store = store_bound F a b R.filled sets R.σ x p gained R.store small none_yet run is_place sets' union_whole fresh replaced;
            passed = λ y l. at y l (ℕ_discrete y x);
            to_come = λ y l. bound_elsewhere F a b R.filled x p within y (λ e. omega arith) ∙ R.to_come y (omega arith);
          }
        where
          within : x < length R.filled
          within = omega (arith, R.store.all_places)

          at : (y : ℕ) → y < x + 1 → Dec (y ≡ x) → bound F a b (set R.filled x p) y ≡ bound F a b places y
          at y l (yes e) = rw e (bound_now F a b R.filled x p within is_place ∙ sym bound_here)
          at y l (no n) = bound_elsewhere F a b R.filled x p within y n ∙ R.passed y (omega arith)

  -- with every variable passed the bindings are all there, and so the sets are right
  pub refilled_all : (sets : List ℕ) → Refilled F a b places sets 32
      → (A B : Term) → (bindings : Bindings F a b A B places) → Unified F a b A B places sets
  refilled_all sets R A B bindings =
      let U = bindings.1 in
      record {
        σ = U.σ;
        stands = U.stands;
        most_general = U.most_general;
        sets_right =
            record {
              first = λ v h z. rw (same v) (R.store.sets_right v z (omega arith));
              second = λ v h z. rw (same (16 + v)) (R.store.sets_right (16 + v) z (omega arith));
            };
        all_places = U.all_places;
        whole = U.whole;
      }
    where
      at : (y : ℕ) → Dec (y < 32) → bound F a b R.filled y ≡ bound F a b places y
      at y (yes h) = R.passed y h
      at y (no h) =
          R.to_come y (omega arith)
          ∙ sym (place_unbound F a b places y (omega (arith, get_or-eq_default places no_place {n = y} (omega (arith, unified.all_places)))))

      all_bound : bound F a b R.filled ≡ bound F a b places
      all_bound = fun_ext (λ y. at y (dec_lt y 32))

      same : (y : ℕ) → bindings.1.σ y ≡ R.σ y
      same y = stands_once (bindings.1.stands y) (subst (λ (s : BoundTerms). Stands s (var y) (R.σ y)) all_bound (R.store.full.stands y))
