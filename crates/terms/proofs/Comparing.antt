-- Comparing the terms at two places: what is found there, and what each way of going on needs and gives.
use Prim.Native.Nat.{ℕ, ◌+◌, ◌-◌, ◌≤◌, ◌<◌}
use mathlib.Core.Path.{◌≡◌, refl, sym, subst, ◌∙◌}
use mathlib.Core.Option.{none, some}
use mathlib.Core.List.{List}
use native.Mathlib.Nat.{le_trans}
use native.Mathlib.Decide.{dec_lt}
use native.Mathlib.Omega.{arith}
use lib.ListN.{length, get_or, drop, length-drop}
use lib.Dec.{ltb}
use borrow.Author.Tests.{lt-ltb, le-ltb}
use Rattle.terms.specs.Term.{var, app, Subst}
use Rattle.terms.specs.Cells.{first_variable, atom_cells, pick, take_terms, Run}
use Rattle.terms.specs.Walk.{cells_of}
use Rattle.terms.specs.Store.{second_atom, no_place, cells_at, terms_at, variable_at, first_term, bound}
use Rattle.terms.specs.Unifying.{look_at, RightStore}
use Rattle.terms.specs.declared.unifier.Look.{Look}
use Rattle.terms.specs.declared.unifier.Look.TheVariants.{Unbound, Bound, Function}
use Rattle.terms.proofs.Places.{cells_first, cells_second, place_within}
use Rattle.terms.proofs.Steps.{run_cell, run_within}
use Rattle.terms.proofs.Standings.{Seen, a_variable, a_function, seen}
use Rattle.terms.proofs.Binding.{place_unbound}
use Rattle.terms.proofs.Parts.{same_inside}

-- what an answer of `look_at` means for the term at the place
abbrev pub Means : List ℕ → List ℕ → List ℕ → List ℕ → ℕ → Look → Type 0
Means F a b places p (Unbound x) = (first_term (terms_at F a b p) ≡ var x) × (bound F a b places x ≡ none) × (x < 32)
Means F a b places p (Bound q) =
    (x : ℕ) × (first_term (terms_at F a b p) ≡ var x) × (bound F a b places x ≡ some (first_term (terms_at F a b q)))
    × Run F (cells_at a b q) 1 × (q < no_place)
Means F a b places p (Function f) =
    (first_term (terms_at F a b p) ≡ app f (take_terms (get_or F f 0) (terms_at F a b (p + 1)))) × (f < length F)
    × Run F (cells_at a b (p + 1)) (get_or F f 0) × (p + 1 < no_place)

-- a place moved on by a term's cells is a place
pub place_past : (F a b : List ℕ) (p : ℕ) → length a ≤ atom_cells → length b ≤ atom_cells → Run F (cells_at a b p) 1
    → p + cells_of F (cells_at a b p) 1 < no_place
place_past F a b p s t r = go (dec_lt p second_atom)
  where
    within : cells_of F (cells_at a b p) 1 ≤ length (cells_at a b p)
    within = run_within F (cells_at a b p) 1 r

    some : 0 < length (cells_at a b p)
    some = run_cell F (cells_at a b p) 1 (λ e. omega arith) r

    go : Dec (p < second_atom) → p + cells_of F (cells_at a b p) 1 < no_place
    go (yes h) =
        let w = place_within a p (rw (cells_first a b p h) at some) in
        let l = length-drop p a in
        let k : cells_of F (cells_at a b p) 1 ≤ length (drop p a) = le_trans within (rw (cells_first a b p h) (omega arith)) in
        omega arith
    go (no h) =
        let w = place_within b (p - second_atom) (rw (cells_second a b p (omega arith)) at some) in
        let l = length-drop (p - second_atom) b in
        let k : cells_of F (cells_at a b p) 1 ≤ length (drop (p - second_atom) b) = le_trans within (rw (cells_second a b p (omega arith)) (omega arith)) in
        omega arith

place_on : (F a b : List ℕ) (p : ℕ) → length a ≤ atom_cells → length b ≤ atom_cells → Run F (cells_at a b p) 1 → p + 1 < no_place
place_on F a b p s t r = go (dec_lt p second_atom)
  where
    some : 0 < length (cells_at a b p)
    some = run_cell F (cells_at a b p) 1 (λ e. omega arith) r

    go : Dec (p < second_atom) → p + 1 < no_place
    go (yes h) = omega arith
    go (no h) =
        let w = place_within b (p - second_atom) (rw (cells_second a b p (omega arith)) at some) in
        omega arith

pub looked : (F a b places sets : List ℕ) (σ : Subst) (p : ℕ) → RightStore F a b places sets σ → Run F (cells_at a b p) 1
    → Means F a b places p (look_at a b places p)
looked F a b places sets σ p K r = go (seen F a b p K.first_short r)
  where
    go : Seen F a b p → Means F a b places p (look_at a b places p)
    go (a_function h d w e) = rw (lt-ltb (get_or (cells_at a b p) 0 0) first_variable h) (e, d, w, place_on F a b p K.first_short K.second_short r)
    go (a_variable h l e s) = rw (le-ltb (get_or (cells_at a b p) 0 0) first_variable h) (at (dec_lt (get_or places x 0) no_place))
      where
        x : ℕ
        x = variable_at p (get_or (cells_at a b p) 0 0)

        same : get_or places (variable_at p (get_or (cells_at a b p) 0 0)) no_place ≡ get_or places (variable_at p (get_or (cells_at a b p) 0 0)) 0
        same = same_inside places _ no_place 0 (omega (arith, s, K.all_places))

        at : Dec (get_or places (variable_at p (get_or (cells_at a b p) 0 0)) 0 < no_place)
            → Means F a b places p (pick (ltb (get_or places (variable_at p (get_or (cells_at a b p) 0 0)) 0) no_place)
            (Bound (get_or places (variable_at p (get_or (cells_at a b p) 0 0)) 0)) (Unbound (variable_at p (get_or (cells_at a b p) 0 0))))
        at (yes k) =
            rw (lt-ltb (get_or places (variable_at p (get_or (cells_at a b p) 0 0)) 0) no_place k) (
              variable_at p (get_or (cells_at a b p) 0 0),
              e,
              rw (same, lt-ltb (get_or places (variable_at p (get_or (cells_at a b p) 0 0)) 0) no_place k) refl,
              (let w = K.whole (variable_at p (get_or (cells_at a b p) 0 0)) (rw same k) in rw same at w),
              k,
            )
        at (no k) =
            rw (le-ltb (get_or places (variable_at p (get_or (cells_at a b p) 0 0)) 0) no_place (omega arith))
            (e, place_unbound F a b places (variable_at p (get_or (cells_at a b p) 0 0)) (rw same (omega arith)), s)

-- the same, of an answer that is known
pub looked_as : (F a b places sets : List ℕ) (σ : Subst) (p : ℕ) → RightStore F a b places sets σ → Run F (cells_at a b p) 1
    → (r l : Look) → r ≡ look_at a b places p → r ≡ l → Means F a b places p l
looked_as F a b places sets σ p K r answer l e f = subst (Means F a b places p) (sym e ∙ f) (looked F a b places sets σ p K r)
