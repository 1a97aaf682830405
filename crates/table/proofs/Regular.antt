-- Every row of an accepted program is regular: its shape, or its clause and place, exist, and its mask is of the shape's or the list's variables.
use Prim.Native.Nat.{ℕ, suc, ◌≤◌, ◌<◌}
use native.Mathlib.Omega.{arith}
use native.Mathlib.Decide.{dec_lt}
use mathlib.Core.Path.{◌≡◌, sym, subst}
use mathlib.Core.Logic.{◌⊎◌, inl, inr, ⊎_elim}
use mathlib.Core.List.{List}
use borrow.Author.Tests.{lt-ltb, le-ltb}
use Rattle.terms.specs.Term.{Term, Terms, var, app, nil, cons, Occ, Occs}
use Rattle.terms.specs.Cells.{variables}
use Rattle.terms.specs.Mask.{Has}
use Rattle.terms.proofs.Masks.{has_below, marks_below}
use Rattle.terms.proofs.Substs.{sub_occ}
use Rattle.terms.proofs.RunVariables.{atom_variables}
use Rattle.marks.specs.Modes.{modes}
use Rattle.marks.proofs.Passing.{pass_within}
use Rattle.program.specs.Program.{Nth, Clause, Program}
use Rattle.program.specs.Shapes.{number, shape_of, Listed}
use Rattle.program.specs.Atoms.{meet}
use Rattle.program.specs.Within.{after, afters, Numbered, Numbereds, WithinLimits}
use Rattle.program.specs.Faults.{sound, faults}
use Rattle.program.specs.Limits.{masks}
use Rattle.program.proofs.ShapeLaws.{nth_member, nth_same, body_shape_law, goal_shape}
use Rattle.program.proofs.GoalShape.{goal_own_shape}
use Rattle.program.proofs.ProgramWords.{sound_within}
use Rattle.table.specs.Rules.{Row, call, calls, conts, solves}
use Rattle.table.specs.Rounds.{At, Closed}
use Rattle.table.specs.Keys.{Regular, regular_call, regular_cont, regular_solution}
use Rattle.table.proofs.RoundLaws.{at_within}
use Rattle.table.proofs.ShapeVariables.{each_member, atoms_variables, in_take, shape_variables}

-- after variable x, no variable is met but x and those met before
pub meet_occurs : (seen x v : ℕ) → x ≤ seen → v < meet seen x → (v < seen) ⊎ (v ≡ x)
meet_occurs seen x v h l = at (dec_lt x seen) (dec_lt v x)
  where
    at : Dec (x < seen) → Dec (v < x) → (v < seen) ⊎ (v ≡ x)
    at (yes g) _ = inl (rw (lt-ltb x seen g) at l)
    at (no g) (yes g') = inl (omega arith)
    at (no g) (no g') = inr (let m : v < suc x = rw (le-ltb x seen (omega arith)) at l in omega arith)

-- variables numbered by first appearance all occur: one below the next number was met before, or occurs
mutual
  pub numbered_occurs : (t : Term) (seen : ℕ) → Numbered seen t → (v : ℕ) → v < after seen t → (v < seen) ⊎ Occ v t
  numbered_occurs (var x) seen h v l = meet_occurs seen x v h l
  numbered_occurs (app f ts) seen h v l = numbereds_occur ts seen h v l

  pub numbereds_occur : (ts : Terms) (seen : ℕ) → Numbereds seen ts → (v : ℕ) → v < afters seen ts → (v < seen) ⊎ Occs v ts
  numbereds_occur nil seen h v l = inl l
  numbereds_occur (cons t ts) seen h v l = at (numbereds_occur ts (after seen t) h.1 v l) (λ l'. numbered_occurs t seen h.0 v l')
    where
      other : (v < seen) ⊎ Occ v t → (v < seen) ⊎ (Occ v t ⊎ Occs v ts)
      other (inl l') = inl l'
      other (inr o) = inr (inl o)

      at : (v < after seen t) ⊎ Occs v ts → (v < after seen t → (v < seen) ⊎ Occ v t) → (v < seen) ⊎ (Occ v t ⊎ Occs v ts)
      at (inl l') before = other (before l')
      at (inr o) before = inr (inr o)

module _ (words : List ℕ) (p : Program) (accepted : faults words ≡ sound p) where
  within : WithinLimits p
  within = sound_within words p accepted

  -- a mask of variables at most 15 is a word
  small : (M : ℕ) → ((v : ℕ) → Has M v → v < variables) → M < masks
  small M h = marks_below 16 M h

  pub goal_regular : Regular p (call 0 p.grounded)
  goal_regular = regular_call (goal_shape p) marked (small p.grounded (λ v o. shape_variables p within (goal_shape p) v (marked v o)))
    where
      marked : (v : ℕ) → Has p.grounded v → Occ v (shape_of p.goal)
      marked v o = rw (goal_own_shape words p accepted)
          (⊎_elim (λ (l : v < 0). absurd (omega arith)) (λ (o' : Occ v p.goal). o')
          (numbered_occurs p.goal 0 within.goal_numbered v (has_below (after 0 p.goal) p.grounded v within.marks o)))

  -- the variables of a clause's lists are at most 15
  listed_variables : {k : ℕ} {c : Clause} → Nth p.clauses k c → (i v : ℕ) → Listed c i v → v < variables
  listed_variables {c = c} hc i v (o, _) =
      let w = each_member within.clauses_within (nth_member hc) in
      ⊎_elim (atom_variables w.head_atom v) (λ (o' : _). atoms_variables c.body w.body_atoms v (in_take i c.body v o')) o

  pub regular_closed : Closed modes p (Regular p)
  regular_closed _ (calls {A = A} {N = N} {R = R} reached hc hA numbered) = regular_call (body_shape_law p hc hA) marked (small R (λ v o. shape_variables p within (body_shape_law p hc hA) v (marked v o)))
    where
      marked : (v : ℕ) → Has R v → Occ v (shape_of A)
      marked v o = let (w, o', e, _) = (numbered v).0 o in sub_occ A (λ x. var (number A x)) w v o' (sym e)
  regular_closed _ (conts {i = i} {R = R} reached hc hA kept) =
      regular_cont hc hA (λ v o. ((kept v).0 o).0) (small R (λ v o. listed_variables hc i v ((kept v).0 o).0))
  regular_closed _ (solves {s = s} {S = S} {C = C} {R = R} hc reached hs called passed) = regular_solution hs (marked called) (small R (λ v o. shape_variables p within hs v (marked called v o)))
    where
      marked : Regular p (call s C) → (v : ℕ) → Has R v → Occ v S
      marked (regular_call hs' w l) v o = ⊎_elim (λ (o' : _). subst (Occ v) (nth_same hs' hs) (w v o')) (λ (o' : _). o') (pass_within passed v o)

  -- "A cont mask has no bit outside its list", and no row has a bit of a variable that is not there
  pub at_regular : (k : ℕ) (row : Row ℕ) → At modes p p.grounded k row → Regular p row
  at_regular = at_within modes p p.grounded (Regular p) regular_closed goal_regular
