-- Bindings that are noted: put behind a set, staying where their bytes stay, and taken back as those that unification left.
use Prim.Native.Nat.{ℕ, ◌+◌, ◌-◌, ◌≤◌, ◌<◌}
use native.Mathlib.Omega.{arith}
use native.Mathlib.Decide.{dec_lt}
use mathlib.Core.Path.{◌≡◌, refl, sym, subst, fun_ext, ◌∙◌}
use mathlib.Core.Logic.{◌⊎◌, inl, inr, ⊎_elim}
use mathlib.Core.List.{List}
use mathlib.Core.Option.{Option}
use lib.ListN.{length, get_or, get_or-eq_default}
use borrow.Author.Tests.{le-ltb}
use Rattle.terms.specs.Term.{Term, var, Occ}
use Rattle.terms.specs.Cells.{variables}
use Rattle.terms.specs.Mask.{Has, Marks}
use Rattle.terms.specs.Store.{all_variables, no_place, bound, Stands}
use Rattle.terms.specs.Unified.{Unified}
use Rattle.terms.specs.Bytes.{noted_set, SetPut}
use Rattle.terms.specs.Noted.{IsBound, count_of, Coded, PlacesPut, noted_size, NotedAt, noted_end, BindingsPut, BindingsTaken}
use Rattle.terms.proofs.Masks.{has_decided, marks_unique}
use Rattle.terms.proofs.Joining.{stands_once}
use Rattle.terms.proofs.Parts.{same_inside}
use Rattle.terms.proofs.BytesPut.{set_stays, put_then}
use Rattle.terms.proofs.CodedPlaces.{coded_stays, put_coded}

-- only the bytes of noted bindings matter
module _ (bytes bytes' : List ℕ) (at : ℕ) (same : (i : ℕ) → at ≤ i → i < noted_end bytes at → get_or bytes' i 0 ≡ get_or bytes i 0) where
  set_same : noted_set bytes' at ≡ noted_set bytes at
  set_same = set_stays bytes bytes' at (λ i l h. same i l (omega arith))

  pub noted_stays : {places : List ℕ} → NotedAt bytes at places → NotedAt bytes' at places
  noted_stays n = record { coded = rw set_same (coded_stays (λ i l h. same i (omega arith) (omega arith)) n.coded) }

  pub end_stays : noted_end bytes' at ≡ noted_end bytes at
  end_stays = rw set_same refl

-- the set is put, and behind it the places
pub bindings_put : {places before marked after : List ℕ} {at s : ℕ} → Marks (IsBound places) s → SetPut before marked at s
    → PlacesPut places marked after s (at + 4) all_variables → BindingsPut places before after at (noted_size s)
bindings_put {places} {before} {marked} {after} {at} {s} m set put =
    record { put = put_then set.put put.put refl refl; noted = record { coded = rw is (put_coded m put) }; ends = rw is refl }
  where
    is : noted_set after at ≡ s
    is = set_stays marked after at (λ j l h. put.put.earlier j (omega arith)) ∙ set.is

-- the set is read, and the places behind it
pub bindings_taken : {bytes places : List ℕ} {at s r : ℕ} → s ≡ noted_set bytes at → r ≡ at + 4 + count_of s all_variables → length places ≡ all_variables
    → Coded bytes places s (at + 4) all_variables → BindingsTaken bytes places at r
bindings_taken {bytes} {places} {at} {s} {r} is end size c =
    record { all_places = size; noted = record { coded = rw is at c }; ends = let e : r ≡ at + noted_size s = omega arith in rw is at e }

-- the bindings of a store are those of every list that has the same places: a place that is none says nothing but that its variable is unbound
abbrev AsPlaces : ℕ → ℕ → Type 0
AsPlaces p p' = (p' ≡ p) ⊎ ((no_place ≤ p) × (no_place ≤ p'))

module _ {functions a b : List ℕ} {A B : Term} {places sets : List ℕ} (u : Unified functions a b A B places sets) (places' : List ℕ)
    (same : (x : ℕ) → AsPlaces (get_or places x no_place) (get_or places' x no_place)) where
  bound_as : bound functions a b places ≡ bound functions a b places'
  bound_as = fun_ext (λ x. ⊎_elim
      (λ e. rw e refl)
      (λ n. rw (le-ltb (get_or places x no_place) no_place n.0, le-ltb (get_or places' x no_place) no_place n.1) refl)
      (same x))

  unified_as : length places' ≡ all_variables → Unified functions a b A B places' sets
  unified_as size =
      record {
        σ = u.σ;
        stands = λ x. subst (λ (f : ℕ → Option Term). Stands f (var x) (u.σ x)) bound_as (u.stands x);
        most_general = u.most_general;
        sets_right = u.sets_right;
        all_places = size;
        whole = λ x l. ⊎_elim (λ e. rw e (u.whole x (rw e at l))) (λ n. absurd (omega (arith, n.1))) (same x);
      }

-- places that are noted are the same in every list that has them
coded_once : {bytes places places' : List ℕ} {s from : ℕ} → Coded bytes places s from all_variables → Coded bytes places' s from all_variables
    → length places ≡ all_variables → length places' ≡ all_variables → (x : ℕ) → AsPlaces (get_or places x no_place) (get_or places' x no_place)
coded_once {places = places} {places' = places'} {s = s} c c' size size' x = at (dec_lt x all_variables) (has_decided s x)
  where
    at : Dec (x < all_variables) → Dec (Has s x) → AsPlaces (get_or places x no_place) (get_or places' x no_place)
    at (no n) h = inl (get_or-eq_default places' no_place {n = x} (omega arith) ∙ sym (get_or-eq_default places no_place {n = x} (omega arith)))
    at (yes l) (yes h) = rw (same_inside places x no_place 0 (omega arith), same_inside places' x no_place 0 (omega arith)) (inl (c'.noted x l h ∙ sym (c.noted x l h)))
    at (yes l) (no n) = rw (same_inside places x no_place 0 (omega arith), same_inside places' x no_place 0 (omega arith)) (inr (c.unbound x l n, c'.unbound x l n))

-- the sets of a store are fixed by its bindings
sets_once : {functions a b : List ℕ} {A B : Term} {places sets sets' : List ℕ} → Unified functions a b A B places sets → Unified functions a b A B places sets'
    → (x : ℕ) → x < all_variables → get_or sets x 0 ≡ get_or sets' x 0
sets_once {sets = sets} {sets' = sets'} u u' x l = at (dec_lt x variables)
  where
    same : (y : ℕ) → u.σ y ≡ u'.σ y
    same y = stands_once (u.stands y) (u'.stands y)

    at : Dec (x < variables) → get_or sets x 0 ≡ get_or sets' x 0
    at (yes f) = marks_unique (λ z. Occ z (u.σ x)) _ _ (u.sets_right.first x f) (rw (same x) (u'.sets_right.first x f))
    at (no n) =
        let e : variables + (x - variables) ≡ x = omega arith in
        let s = u.sets_right.second (x - variables) (omega arith) in
        let s' = u'.sets_right.second (x - variables) (omega arith) in
        marks_unique (λ z. Occ z (u.σ x)) _ _ (rw e at s) (rw (same x) (rw e at s'))

-- bindings that are noted and taken back are those that unification left, with its sets
module _ {functions a b : List ℕ} {A B : Term} {places sets bytes places' : List ℕ} {at : ℕ} (u : Unified functions a b A B places sets)
    (noted : NotedAt bytes at places) (taken : NotedAt bytes at places') (size : length places' ≡ all_variables) where
  pub taken_back : Unified functions a b A B places' sets
  taken_back = unified_as u places' (coded_once noted.coded taken.coded u.all_places size) size

  -- and the sets that are made of them again are those sets
  pub sets_again : {sets' : List ℕ} → Unified functions a b A B places' sets' → (x : ℕ) → x < all_variables → get_or sets' x 0 ≡ get_or sets x 0
  sets_again u' = sets_once u' taken_back
