-- The variables of a shape, and of an atom numbered from 0, are the numbers below their count.
use Prim.Native.Nat.{ℕ, ◌≤◌, ◌<◌}
use native.Mathlib.Omega.{arith}
use native.Mathlib.Decide.{ℕ_discrete, dec_lt}
use mathlib.Core.Path.{◌≡◌, refl, sym, ap, ◌∙◌}
use mathlib.Core.Logic.{◌↔◌}
use mathlib.Core.List.Memᴰ
use mathlib.Core.List.{List, [], ◌∷◌, ◌++◌, map, Memᴰ}
use lib.ListN.{length, length-append, length-map}
use Rattle.terms.specs.Term.{Term, Terms, var, app, nil, cons, Occ}
use Rattle.terms.specs.Cells.{variables, Atom}
use Rattle.terms.proofs.Substs.{occ_sub, sub_occ}
use Rattle.terms.proofs.RunVariables.{atom_variables}
use Rattle.program.specs.Shapes.{place, with, met, mets, number, shape_of}
use Rattle.program.specs.Within.{after, afters, Numbered, Numbereds}
use Rattle.program.proofs.ShapeLaws.{place_nth, met_has, member_decided, met_occurs}
use Rattle.program.proofs.OwnShape.{with_old, with_new, place_old, place_new, up_to, length_up_to, has_up_to, up_to_has}
use Rattle.program.proofs.GoalShape.{meet_with}
use Rattle.program.proofs.Nths.{nth_below}
use Rattle.program.proofs.Counting.{all_below_count}

-- each number below the length is the place of an element
abbrev pub Onto : List ℕ → Type 0
Onto l = (n : ℕ) → n < length l → (x : ℕ) × Memᴰ x l × (place ℕ_discrete x l ≡ n)

with_onto : (l : List ℕ) (v : ℕ) → Onto l → Onto (with ℕ_discrete l v)
with_onto l v o = by (member_decided ℕ_discrete v l)
  where
    last : (Memᴰ v l → ⊥) → (n : ℕ) → n < length (l ++ (v ∷ [])) → Dec (n < length l)
        → (x : ℕ) × Memᴰ x (l ++ (v ∷ [])) × (place ℕ_discrete x (l ++ (v ∷ [])) ≡ n)
    last nm n h (yes less) = let (x, m, e) = o n less in (x, Memᴰ.append_left (v ∷ []) m, place_old ℕ_discrete l (v ∷ []) x m ∙ e)
    last nm n h (no more) =
        let e : length l ≡ n = omega (arith, length-append l (v ∷ [])) in
        (v, Memᴰ.append_right l (Memᴰ.head refl), place_new ℕ_discrete l [] v nm ∙ e)

    by : Dec (Memᴰ v l) → Onto (with ℕ_discrete l v)
    by (yes m) = rw (with_old ℕ_discrete l v m) o
    by (no nm) = rw (with_new ℕ_discrete l v nm) (λ n h. last nm n h (dec_lt n (length l)))

mutual
  met_onto : (t : Term) (seen : List ℕ) → Onto seen → Onto (met seen t)
  met_onto (var v) seen o = with_onto seen v o
  met_onto (app f ts) seen o = mets_onto ts seen o

  mets_onto : (ts : Terms) (seen : List ℕ) → Onto seen → Onto (mets seen ts)
  mets_onto nil seen o = o
  mets_onto (cons t ts) seen o = mets_onto ts (met seen t) (met_onto t seen o)

-- the variables of a shape are the numbers below the count of the atom's variables
pub shape_variables : (A : Term) (v : ℕ) → Occ v (shape_of A) ↔ (v < length (met [] A))
shape_variables A v = (there, back)
  where
    there : Occ v (shape_of A) → v < length (met [] A)
    there o =
        let (x, q, e) = occ_sub A (λ y. var (number A y)) v o in
        rw e (nth_below (place_nth ℕ_discrete x (met [] A) (met_has A [] x q)))

    back : v < length (met [] A) → Occ v (shape_of A)
    back h =
        let (x, m, e) = met_onto A [] (λ n l. absurd (omega arith)) v h in
        sub_occ A (λ y. var (number A y)) x v (met_occurs A x m) (sym e)

-- "v is at most 15", so that there are at most 16
pub met_few : (P F : List ℕ) (A : Term) → Atom P F A → length (met [] A) ≤ variables
met_few P F A a =
    rw (length-map (up_to variables) (λ x. number A x), length_up_to variables) at
    (all_below_count (length (met [] A)) (map (number A) (up_to variables)) found)
  where
    found : (n : ℕ) → n < length (met [] A) → Memᴰ n (map (number A) (up_to variables))
    found n h =
        let (x, m, e) = met_onto A [] (λ k l. absurd (omega arith)) n h in
        rw (← e) (Memᴰ.map (number A) (up_to_has variables x (atom_variables a x (met_occurs A x m))))

-- "variables are numbered from 0 by first appearance"
mutual
  pub numbered_met : (t : Term) (seen : ℕ) → Numbered seen t → met (up_to seen) t ≡ up_to (after seen t)
  numbered_met (var v) seen h = meet_with seen v h
  numbered_met (app f ts) seen h = numbereds_met ts seen h

  pub numbereds_met : (ts : Terms) (seen : ℕ) → Numbereds seen ts → mets (up_to seen) ts ≡ up_to (afters seen ts)
  numbereds_met nil seen h = refl
  numbereds_met (cons t ts) seen h = ap (λ (l : List ℕ). mets l ts) (numbered_met t seen h.0) ∙ numbereds_met ts (after seen t) h.1

-- the variables of an atom that is numbered from 0 are the numbers below their count
pub numbered_variables : (A : Term) → Numbered 0 A → (v : ℕ) → Occ v A ↔ (v < length (met [] A))
numbered_variables A h v = (there, back)
  where
    e : met [] A ≡ up_to (after 0 A)
    e = numbered_met A 0 h

    there : Occ v A → v < length (met [] A)
    there o = rw (e, length_up_to) (has_up_to (after 0 A) v (rw e at (met_has A [] v o)))

    back : v < length (met [] A) → Occ v A
    back l = met_occurs A v (rw e (up_to_has (after 0 A) v (rw (e, length_up_to) at l)))
