-- Places as they are noted: only those of the variables that are bound. One variable more, as the set is made, as they are put and as they are taken.
use Prim.Native.Nat.{ℕ, zero, suc, ◌+◌, ◌/◌, ◌%◌, ◌^◌, ◌≤◌, ◌<◌}
use native.Mathlib.Nat.{add-zero, div-one, pow-succ'}
use native.Mathlib.Numerals.{add-one}
use native.Mathlib.Omega.{arith}
use native.Mathlib.Decide.{ℕ_discrete, dec_lt}
use mathlib.Core.Path.{◌≡◌, refl, sym, subst, ◌∙◌}
use mathlib.Core.Logic.{◌⊎◌, inl, inr, ⊎_elim}
use mathlib.Core.List.{List}
use lib.ListN.{length, get_or, set, replicate, length-set, get_or-replicate}
use lib.Seq.{get_or-set_same, get_or-set_other}
use lib.Bits.{bit_or}
use lib.Count.{ones, ones_step, ones-le}
use Rattle.terms.specs.Mask.{mark_of, Has, Marks}
use Rattle.terms.specs.Store.{all_variables, no_place}
use Rattle.terms.proofs.Masks.{has_or, has_one, halved, mark_any_or_ground}
use Rattle.terms.specs.Noted.{IsBound, count_of, Coded, PlacesPut}
use Rattle.terms.proofs.BytesPut.{put_then, byte_put}

-- how many variables of a set are among the first
pub count_zero : (s : ℕ) → count_of s 0 ≡ 0
unfolding count_of
count_zero s = refl

count_suc : (s x : ℕ) → count_of s (suc x) ≡ count_of s x + mark_of s x
unfolding count_of
count_suc s x = refl

pub count_in : (s x : ℕ) → Has s x → count_of s (x + 1) ≡ count_of s x + 1
count_in s x h = rw (add-one x, count_suc, h)

pub count_out : (s x : ℕ) → (Has s x → ⊥) → count_of s (x + 1) ≡ count_of s x
count_out s x n = rw (add-one x) (⊎_elim (λ e. count_suc s x ∙ rw e (add-zero (count_of s x))) (λ h. absurd (n h)) (mark_any_or_ground s x))

count_up : (s x y : ℕ) → x ≤ y → count_of s x ≤ count_of s y
count_up s x zero l = let e : x ≡ 0 = omega arith in rw e (omega arith)
count_up s x (suc y) l = at (dec_lt x (suc y)) (count_up s x y)
  where
    at : Dec (x < suc y) → (x ≤ y → count_of s x ≤ count_of s y) → count_of s x ≤ count_of s (suc y)
    at (yes h) up = omega (arith, up (omega arith), count_suc s y)
    at (no n) up = let e : x ≡ suc y = omega arith in rw e (omega arith)

pub count_above : (s x y : ℕ) → x < y → Has s x → count_of s x < count_of s y
count_above s x y l h = omega (arith, count_in s x h, count_up s (x + 1) y (omega arith))

-- the first variable, and those behind it
count_first : (s x : ℕ) → count_of s (suc x) ≡ s % 2 + count_of (s / 2) x
count_first s zero = omega (arith, count_suc s 0, count_zero s, count_zero (s / 2), div-one s)
count_first s (suc x) =
    let e : mark_of (s / 2) x ≡ mark_of s (suc x) = rw halved in
    omega (arith, count_suc s (suc x), count_suc (s / 2) x, count_first s x)

-- all variables of a set: as many as it has ones
pub count_ones : (k s : ℕ) → s < 2 ^ k → count_of s k ≡ ones s
count_ones zero s small = omega (arith, count_zero s, ones-le 0 s small)
count_ones (suc k) s small =
    omega (arith, count_first s k, ones_step s, count_ones k (s / 2) (let p = pow-succ' 2 k in omega arith))

-- the set of the bound variables, of those before x
module _ (places : List ℕ) (s x : ℕ) (m : Marks (λ v. (v < x) × (get_or places v 0 < no_place)) s) where
  pub bound_more : get_or places x 0 < no_place → Marks (λ v. (v < x + 1) × (get_or places v 0 < no_place)) (bit_or s (2 ^ x))
  bound_more b v = (
    λ h. ⊎_elim (λ o. let l = (m v).0 o in (omega (arith, l.0), l.1)) (λ o. let e = (has_one x v).0 o in (omega arith, rw e b)) ((has_or s (2 ^ x) v).0 h),
    λ h. (has_or s (2 ^ x) v).1 (at h (dec_lt v x)),
  )
    where
      at : (v < x + 1) × (get_or places v 0 < no_place) → Dec (v < x) → Has s v ⊎ Has (2 ^ x) v
      at h (yes l) = inl ((m v).1 (l, h.1))
      at h (no n) = inr ((has_one x v).1 (omega (arith, h.0)))

  pub bound_same : (get_or places x 0 < no_place → ⊥) → Marks (λ v. (v < x + 1) × (get_or places v 0 < no_place)) s
  bound_same n v = (λ h. let l = (m v).0 h in (omega (arith, l.0), l.1), λ h. (m v).1 (at h (dec_lt v x)))
    where
      at : (v < x + 1) × (get_or places v 0 < no_place) → Dec (v < x) → (v < x) × (get_or places v 0 < no_place)
      at h (yes l) = (l, h.1)
      at h (no k) = let e : v ≡ x = omega (arith, h.0) in absurd (n (rw e at h.1))

-- what holds of the variables before x and of x
one_more_law : {P : ℕ → Type 0} {x : ℕ} → ((v : ℕ) → v < x → P v) → P x → (v : ℕ) → v < x + 1 → P v
one_more_law {P} {x} before at v l = go (ℕ_discrete v x)
  where
    go : Dec (v ≡ x) → P v
    go (yes e) = subst P (sym e) at
    go (no n) = before v (omega arith)

-- only the bytes that have the places matter
pub coded_stays : {bytes bytes' places : List ℕ} {s from upto : ℕ} → ((i : ℕ) → from ≤ i → i < from + count_of s upto → get_or bytes' i 0 ≡ get_or bytes i 0)
    → Coded bytes places s from upto → Coded bytes' places s from upto
coded_stays {s = s} {from = from} {upto = upto} same c =
    record {
      noted = λ x l h. c.noted x l h ∙ sym (same (from + count_of s x) (omega arith) (omega (arith, count_above s x upto l h)));
      unbound = c.unbound;
    }

-- places put: none, and one variable more
pub put_none : (places bytes : List ℕ) (s at : ℕ) → PlacesPut places bytes bytes s at 0
put_none places bytes s at =
    record { put = record { size = refl; earlier = λ j l. refl; later = λ j l. refl }; noted = λ x l. absurd (omega arith) }

module _ {places before bytes : List ℕ} {s at x : ℕ} (p : PlacesPut places before bytes s at x) where
  pub put_out : (Has s x → ⊥) → PlacesPut places before bytes s at (x + 1)
  put_out n = record { put = rw (count_out s x n) p.put; noted = one_more_law p.noted (λ h. absurd (n h)) }

  pub put_in : (end : ℕ) → end ≡ at + count_of s x → end < length bytes → Has s x
      → PlacesPut places before (set bytes end (get_or places x 0)) s at (x + 1)
  put_in end is room h =
      record {
        put = put_then p.put (byte_put bytes end (get_or places x 0)) is (count_in s x h);
        noted = one_more_law
            (λ v l o. p.noted v l o ∙ sym (get_or-set_other bytes end (at + count_of s v) (get_or places x 0) 0 (λ e. omega (arith, count_above s v x l o))))
            (λ o. rw (← is) (sym (get_or-set_same bytes end (get_or places x 0) 0 room)));
      }

-- all places that are put are those of the bound variables
pub put_coded : {places before bytes : List ℕ} {s at : ℕ} → Marks (IsBound places) s → PlacesPut places before bytes s at all_variables
    → Coded bytes places s at all_variables
put_coded {places} {s = s} m p = record { noted = p.noted; unbound = λ x l n. at x l n (dec_lt (get_or places x 0) no_place) }
  where
    at : (x : ℕ) → x < all_variables → (Has s x → ⊥) → Dec (get_or places x 0 < no_place) → no_place ≤ get_or places x 0
    at x l n (yes b) = absurd (n ((m x).1 (l, b)))
    at x l n (no b) = omega arith

-- the places of the first x variables are taken, and the others are unbound
pub record Taking (bytes places : List ℕ) (s from x : ℕ) : Type 0 where
  pub all_places : length places ≡ all_variables
  pub coded : Coded bytes places s from x
  pub others : (v : ℕ) → x ≤ v → v < all_variables → get_or places v 0 ≡ no_place

pub taking_none : (bytes : List ℕ) (s from : ℕ) → Taking bytes (replicate all_variables no_place) s from 0
taking_none bytes s from =
    record {
      all_places = refl;
      coded = record { noted = λ x l. absurd (omega arith); unbound = λ x l. absurd (omega arith) };
      others = λ v h l. get_or-replicate all_variables v no_place 0 l;
    }

module _ {bytes places : List ℕ} {s from x : ℕ} (t : Taking bytes places s from x) (more : x < all_variables) where
  pub taking_out : (Has s x → ⊥) → Taking bytes places s from (x + 1)
  taking_out n =
      record {
        all_places = t.all_places;
        coded = record {
          noted = one_more_law t.coded.noted (λ h. absurd (n h));
          unbound = one_more_law t.coded.unbound (λ k. omega (arith, t.others x (omega arith) more));
        };
        others = λ v h l. t.others v (omega arith) l;
      }

  pub taking_in : (w : ℕ) → w ≡ get_or bytes (from + count_of s x) 0 → Has s x → Taking bytes (set places x w) s from (x + 1)
  taking_in w is o =
      record {
        all_places = length-set places x w ∙ t.all_places;
        coded = record {
          noted = one_more_law (λ v l h. same v (λ e. omega arith) ∙ t.coded.noted v l h) (λ h. get_or-set_same places x w 0 (omega (arith, t.all_places)) ∙ is);
          unbound = one_more_law (λ v l n. rw (same v (λ e. omega arith)) (t.coded.unbound v l n)) (λ n. absurd (n o));
        };
        others = λ v h l. same v (λ e. omega arith) ∙ t.others v (omega arith) l;
      }
    where
      same : (v : ℕ) → (v ≡ x → ⊥) → get_or (set places x w) v 0 ≡ get_or places v 0
      same v n = get_or-set_other places x v w 0 n
