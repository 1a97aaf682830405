-- A shape that meets an atom: what its rows pass on the sets of their unifier are its answers, and a shape that is apart from the atom has none.
use Prim.Native.Nat.{ℕ, ◌+◌, ◌<◌, ◌≤◌}
use native.Mathlib.Omega.{arith}
use mathlib.Core.Path.{subst}
use mathlib.Core.Logic.{inl, inr, ⊎_elim, ◌↔◌}
use mathlib.Core.List.{List}
use lib.ListN.{length, get_or}
use Rattle.terms.specs.Term.{Term}
use Rattle.terms.specs.Cells.{variables}
use Rattle.terms.specs.Mask.{Has, Marks}
use Rattle.terms.specs.Unifier.{Apart}
use Rattle.terms.proofs.Masks.{marks_for}
use Rattle.marks.specs.Pass.{Marked, Pass}
use Rattle.marks.specs.Passing.{VariablesOf, MarkedIn}
use Rattle.marks.proofs.PassedOn.{first_stands, second_stands, marked_same, first_to_second}
use Rattle.marks.proofs.Passing.{marked_under}
use Rattle.program.specs.Limits.{masks}
use Rattle.program.proofs.ShapeLaws.{nth_same}
use Rattle.rows.specs.Rows.{mask_at}
use Rattle.directory.specs.Layout.{shape_vars}
use Rattle.steps.specs.Situation.{Meeting, Unifying}
use Rattle.joining.specs.AnswerSteps.{Gathered, AnswerOf, Sided, ShapeAsked, GivenFrom, MetAsked, GivenWith}
use Rattle.steps.proofs.ShapeLinks.{shape_below}
use Rattle.joining.proofs.AnswerSides.{sided_for}

-- marks passed through a unifier stand on the sets of every most general one
pub pass_on_sets : {S A : Term} {sets : List ℕ} {here there M q : ℕ} → Unifying S A sets → VariablesOf S here → VariablesOf A there → Pass S M A 0 q
    → Marks (MarkedIn sets 0 M here 16 0 there) q
pass_on_sets {S} {A} {sets} {here} {there} {M} {q} u vars vars' pass = marks_for q same pass.result
  where
    id : (N v : ℕ) → Has N v → Has N v
    id N v h = h

    same : (y : ℕ) → Marked S M A 0 pass.α pass.β y ↔ MarkedIn sets 0 M here 16 0 there y
    same y =
        let m = marked_same M 0 (first_stands u.sets_right) vars (second_stands u.sets_right) vars' y in (
          λ h. m.1 (marked_under M M 0 0 (id M) (id 0) pass.unifier u.α u.β u.most_general.unifies y h),
          λ h. marked_under M M 0 0 (id M) (id 0) u.most_general pass.α pass.β pass.unifier.unifies y (m.0 h),
        )

module _ {words dir table seen answers : List ℕ} {s newest start cells there from since fresh older : ℕ}
    (w : MetAsked words dir table seen answers s newest start cells there from since fresh older) where
  abbrev m : Meeting words dir s start cells
  m = w.meeting

  pub variables_read : shape_vars + s < length dir
  variables_read = omega (arith, shape_below m.setting m.nth_shape, m.setting.directory.size)

  pub variables_few : get_or dir (shape_vars + s) 0 ≤ variables
  variables_few = (m.setting.directory.shape m.nth_shape).few

  shape_variables : (here : ℕ) → here < masks → Marks (λ v. v < get_or dir (shape_vars + s) 0) here → VariablesOf m.S here
  shape_variables here small h =
      record {
        small = small;
        marked = marks_for here (λ v. let e = (m.setting.directory.shape m.nth_shape).shape_variables v in (e.1, e.0)) h;
      }

  -- what the walk over the shape's rows asks
  abbrev pub asked : ShapeAsked table seen answers newest from since fresh older
  asked = record { p = m.p; A = m.A; k = w.k; s = s; rows = w.rows; shape = w.shape }

  -- they unify
  pub met_answers : (sets : List ℕ) (here : ℕ) → here < masks → Marks (λ v. v < get_or dir (shape_vars + s) 0) here → Unifying m.S m.A sets
      → {seen' answers' : List ℕ} {fresh' older' : ℕ}
      → Sided (GivenFrom m.p m.A w.k s w.rows table sets here there from 0) since w.rows seen' answers' fresh' older'
      → Sided (GivenWith m.p m.A w.k s w.rows table from) since w.rows seen' answers' fresh' older'
  met_answers sets here small h u d = sided_for (λ r q. (⊎_elim inl (λ g. inr (out r q g)), ⊎_elim inl (λ a. inr (back r q a)))) d
    where
      vars : VariablesOf m.S here
      vars = shape_variables here small h

      out : (r q : ℕ) → Gathered table sets here there s from w.rows 0 r q → AnswerOf m.p table m.A from w.rows s r q
      out r q g = (m.S, m.nth_shape, g.1, first_to_second (mask_at table r) 0 q u.most_general u.sets_right vars w.variables_there g.2)

      back : (r q : ℕ) → AnswerOf m.p table m.A from w.rows s r q → Gathered table sets here there s from w.rows 0 r q
      back r q a =
          let pass = subst (λ (T : Term). Pass T (mask_at table r) m.A 0 q) (nth_same a.1 m.nth_shape) a.3 in
          (omega arith, a.2, pass_on_sets u vars w.variables_there pass)

  -- they are apart
  pub apart_answers : Apart m.S m.A → Sided (GivenWith m.p m.A w.k s w.rows table from) since w.rows seen answers fresh older
  apart_answers apart = sided_for (λ r q. (inl, ⊎_elim (λ a. a) (λ a. absurd (none r q a)))) w.shape.sided
    where
      none : (r q : ℕ) → AnswerOf m.p table m.A from w.rows s r q → ⊥
      none r q a =
          let pass = subst (λ (T : Term). Pass T (mask_at table r) m.A 0 q) (nth_same a.1 m.nth_shape) a.3 in
          apart pass.α pass.β pass.unifier.unifies
