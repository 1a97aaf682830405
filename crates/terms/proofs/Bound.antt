-- The store after an unbound variable is bound, and the outcome of binding: apart where the occurs check finds the variable.
use Prim.Native.Nat.{ℕ, suc, ◌+◌, ◌-◌, ◌*◌, ◌≤◌, ◌<◌}
use mathlib.Core.Path.{◌≡◌, refl, sym, ap, ap₂, ◌∙◌}
use mathlib.Core.Logic.{inl, inr, ◌↔◌, ⊎_elim}
use mathlib.Core.Option.{Option, none}
use mathlib.Core.List.{List}
use native.Mathlib.Nat.{le_trans, mul-le-mul_left, mul-le-mul_right}
use native.Mathlib.Decide.{ℕ_discrete, dec_lt}
use native.Mathlib.Omega.{arith}
use lib.ListN.{length, get_or, set, length-set, length-append, length-drop}
use lib.Seq.{get_or-set_same, get_or-set_other}
use Rattle.terms.specs.Term.{Term, Terms, var, app, nil, cons, Subst, sub, subs, Occ, Occs}
use Rattle.terms.specs.Cells.{enc, encs, atom_cells, Run}
use Rattle.terms.specs.Mask.{Has}
use Rattle.terms.specs.Store.{no_place, cells_at, terms_at, first_term, bound, Stands}
use Rattle.terms.specs.Unifying.{base_of, Full, steps, free, most, RightStore, Joined, Parted, Followed, AllReplaced}
use Rattle.terms.proofs.Solutions.{occurs_check}
use Rattle.terms.proofs.Standing.{stands_sub, unbound_itself, full_more}
use Rattle.terms.proofs.Stores.{solves_sub, extended, extended_solves}
use Rattle.terms.proofs.Walks.{Union}
use Rattle.terms.proofs.Steps.{run_within}
use Rattle.terms.proofs.Places.{cells_first, cells_second}
use Rattle.terms.proofs.Standings.{base_small, Next, next_term}
use Rattle.terms.proofs.Binding.{gained_right, occ_bind, fewer_free, free_most, bound_now, bound_elsewhere, unbound_place}
use Rattle.terms.proofs.RunVariables.{keeps_below}

-- a renumbered term has as many cells
mutual
  pub renumbered_cells : (t : Term) (f : ℕ → ℕ) → length (enc (sub t (λ v. var (f v)))) ≡ length (enc t)
  renumbered_cells (var v) f = refl
  renumbered_cells (app g ts) f = ap suc (renumbered_cells_all ts f)

  pub renumbered_cells_all : (ts : Terms) (f : ℕ → ℕ) → length (encs (subs ts (λ v. var (f v)))) ≡ length (encs ts)
  renumbered_cells_all nil f = refl
  renumbered_cells_all (cons t ts) f =
      rw (length-append, length-append) (ap₂ ◌+◌ (renumbered_cells t f) (renumbered_cells_all ts f))

-- an atom's cells from a place on are no more than the atom's
pub short_at : (a b : List ℕ) (p : ℕ) → length a ≤ atom_cells → length b ≤ atom_cells → length (cells_at a b p) ≤ atom_cells
short_at a b p s t = go (dec_lt p 64)
  where
    go : Dec (p < 64) → length (cells_at a b p) ≤ atom_cells
    go (yes h) = rw (cells_first a b p h, length-drop) (omega arith)
    go (no h) = rw (cells_second a b p (omega arith), length-drop) (omega arith)

most_more : (k n : ℕ) → n ≤ atom_cells * suc (suc (most k)) → most k * suc n ≤ most (suc k)
unfolding most
most_more k n h = mul-le-mul_left (most k) (omega arith)

full_within : (b : ℕ → Option Term) (σ : Subst) (c d : ℕ) → c ≤ d → Full b σ c → Full b σ d
full_within b σ c d l F = record { stands = F.stands; few = λ x. le_trans (F.few x) l }

module _ (F a b places sets : List ℕ) (σ : Subst) (x p gained : ℕ) (K : RightStore F a b places sets σ)
    (small : x < 32) (none_yet : bound F a b places x ≡ none) (r : Run F (cells_at a b p) 1) (is_place : p < no_place) where
  abbrev pub term : Term
  term = first_term (terms_at F a b p)

  abbrev pub here : Next F a b p 0
  here = next_term F a b p 0 K.first_short r

  -- the set of what the term stands for
  abbrev pub Gained : Type 0
  Gained = Union (enc here.term) (base_of p) sets gained

  pub gained_set : Gained → (z : ℕ) → Has gained z ↔ Occ z (sub term σ)
  gained_set is z =
      rw here.stands
      (gained_right F sets (base_of p) here.term σ gained (base_small p) here.keeps (keeps_below F here.term here.keeps) K.sets_right is z)

  pub itself : σ x ≡ var x
  itself = unbound_itself (bound F a b places) x (σ x) (K.full.stands x) none_yet

  stood : Stands (bound F a b places) term (sub term σ)
  stood = (stands_sub (bound F a b places) σ (most (32 - free places)) K.full term).0

  stood_few : steps stood ≤ atom_cells * suc (suc (most (32 - free places)))
  unfolding stood
  stood_few =
      let s = (stands_sub (bound F a b places) σ (most (32 - free places)) K.full term).1 in
      let l : length (enc term) ≤ atom_cells =
      rw (here.stands, renumbered_cells here.term (λ v. base_of p + v), ← here.long)
      (le_trans (run_within F (cells_at a b p) 1 r) (short_at a b p K.first_short K.second_short)) in
      le_trans s (mul-le-mul_right (suc (suc (most (32 - free places)))) l)

  one_fewer : suc (free (set places x p)) ≡ free places
  one_fewer = fewer_free places x p (omega (arith, K.all_places)) (unbound_place F a b places x none_yet) is_place

  -- the store with x bound
  pub store_bound : (sets' : List ℕ) → Gained → (Has gained x → ⊥) → AllReplaced x gained sets sets'
      → RightStore F a b (set places x p) sets' (extended σ x term itself)
  unfolding one_fewer stood
  store_bound sets' is fresh replaced =
      record {
        first_short = K.first_short;
        second_short = K.second_short;
        all_places = length-set places x p ∙ K.all_places;
        all_sets = replaced.as_many;
        whole = λ y h. whole_at y h (ℕ_discrete y x);
        full = full_within _ _ (most (32 - free places) * suc (steps stood)) (most (32 - free (set places x p))) few
            (full_more (bound F a b places) (bound F a b (set places x p)) x term (sub term σ) none_yet
            (bound_now F a b places x p (omega (arith, K.all_places)) is_place)
            (bound_elsewhere F a b places x p (omega (arith, K.all_places)))
            stood (λ o. fresh ((gained_set is x).1 o)) σ (most (32 - free places)) K.full);
        sets_right = λ y z h.
            let e = occ_bind x z (sub term σ) (σ y) in
            let q = replaced.each y h z in (
              (λ s. e.1 (⊎_elim
                  (λ w. inl ((K.sets_right y z h).0 w.0, w.1))
                  (λ w. inr ((K.sets_right y x h).0 w.0, (gained_set is z).0 w.1)) (q.0 s))),
              (λ o. q.1 (⊎_elim
                  (λ w. inl ((K.sets_right y z h).1 w.0, w.1))
                  (λ w. inr ((K.sets_right y x h).1 w.0, (gained_set is z).1 w.1)) (e.0 o))),
            );
      }
    where
      whole_at : (y : ℕ) → get_or (set places x p) y no_place < no_place → Dec (y ≡ x) → Run F (cells_at a b (get_or (set places x p) y no_place)) 1
      whole_at y h (yes e) = rw (e, get_or-set_same places x p no_place (omega (arith, K.all_places))) r
      whole_at y h (no n) =
          rw (get_or-set_other places x y p no_place n) (K.whole y (rw (get_or-set_other places x y p no_place n) at h))

      few : most (32 - free places) * suc (steps stood) ≤ most (32 - free (set places x p))
      few =
          let e : 32 - free (set places x p) ≡ suc (32 - free places) = omega (arith, one_fewer, free_most places, K.all_places) in
          rw e (most_more (32 - free places) (steps stood) stood_few)

  -- bound: the solutions are those from before that make x and the term equal
  pub joined_bound : (sets' : List ℕ) → Gained → (Has gained x → ⊥) → AllReplaced x gained sets sets'
      → Joined F a b places sets σ (cons (var x) nil) (cons term nil) (set places x p) sets'
  joined_bound sets' is fresh replaced =
      record {
        after = extended σ x term itself;
        store = store_bound sets' is fresh replaced;
        solves = λ τ.
            let e = extended_solves σ x term itself τ in (
              (λ h. let q = e.0 h in (q.0, ap (λ (u : Term). cons u nil) q.1)),
              (λ h. let q : τ x ≡ sub term τ = one_same h.1 in e.1 (h.0, q)),
            );
        fewer = inl (omega (arith, one_fewer));
      }
    where
      one_same : {u w : Term} → cons u nil ≡ cons w nil → u ≡ w
      one_same e = cc

  -- the occurs check: x occurs in what the term stands for, and the term is not x itself
  pub parted_bound : Gained → Has gained x → Followed (bound F a b places) x term → Parted σ (cons (var x) nil) (cons term nil)
  parted_bound is found way τ s e = go way
    where
      same : τ x ≡ sub term τ
      same = cc

      occurs : Occ x (sub term σ)
      occurs = (gained_set is x).0 found

      go : Followed (bound F a b places) x term → ⊥
      go (inl (f, us, q)) =
          let o : Occs x (subs us σ) = rw q at occurs in
          let w : τ x ≡ sub (app f (subs us σ)) τ = same ∙ sym (solves_sub σ τ s term) ∙ rw q refl in
          occurs_check x f (subs us σ) o τ w
      go (inr (y, q, free-y, n)) =
          let v : σ y ≡ var y = unbound_itself (bound F a b places) y (σ y) (K.full.stands y) free-y in
          let o : Occ x (σ y) = rw q at occurs in
          n (sym (rw v at o))
