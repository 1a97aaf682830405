-- `mark_head` meets its contract. The invariant: the marks of the shapes below the link are in the set, and the notes are of the head. The measure
-- is how many links may follow. Assumes nothing.
use native.Mathlib.Omega.{arith}
use mathlib.Core.Path.{◌∙◌}
use Rattle.calling.proofs.ShapeVisits.{head_in_words}
use Rattle.calling.proofs.HeadVisits.{asked_clause, asked_head_in_dir, head_begins, head_shape, head_few, head_nearer, head_on, head_ends}
use Rattle.calling.proofs.calls.mark_head.Goals as goal
use Rattle.calling.proofs.calls.mark_head.Goals.{else-marks_of_shape, then-marks_of_shape}

pub overflow_add-k : goal.overflow_add-k
overflow_add-k c = let few = asked_head_in_dir c.requires.0 in omega (arith, few.0, few.1)

pub offset_bounds-program-k : goal.offset_bounds-program-k
offset_bounds-program-k c = let few = asked_head_in_dir c.requires.0 in omega (arith, few.0, few.1)

pub bounds-program-k : goal.bounds-program-k
bounds-program-k c = let few = asked_head_in_dir c.requires.0 in omega (arith, few.0, few.1)

pub overflow_add-k-2 : goal.overflow_add-k-2
overflow_add-k-2 c = let few = asked_head_in_dir c.requires.0 in omega (arith, few.0, few.1)

pub offset_bounds-program-k-2 : goal.offset_bounds-program-k-2
offset_bounds-program-k-2 c = let few = asked_head_in_dir c.requires.0 in omega (arith, few.0, few.1)

pub bounds-program-k-2 : goal.bounds-program-k-2
bounds-program-k-2 c = let few = asked_head_in_dir c.requires.0 in omega (arith, few.0, few.1)

pub overflow_add-k-3 : goal.overflow_add-k-3
overflow_add-k-3 c = let few = asked_head_in_dir c.requires.0 in omega (arith, few.0, few.1)

pub offset_bounds-program-k-3 : goal.offset_bounds-program-k-3
offset_bounds-program-k-3 c = let few = asked_head_in_dir c.requires.0 in omega (arith, few.0, few.1)

pub bounds-program-k-3 : goal.bounds-program-k-3
bounds-program-k-3 c = let few = asked_head_in_dir c.requires.0 in omega (arith, few.0, few.1)

pub bounds-program-head : goal.bounds-program-head
bounds-program-head c = let a = c.requires.0 in
    (head_in_words a.situation.setting a.clause.nth_clause _ c.from.ensures).0

pub bounds-program-from : goal.bounds-program-from
bounds-program-from c = let a = c.requires.0 in
    omega (arith, (head_in_words a.situation.setting a.clause.nth_clause _ c.from.ensures).1, c.from-4.ensures, (asked_head_in_dir a).1)

pub loop-link-init : goal.loop-link-init
loop-link-init c = (
  λ w b.
      head_begins w b _ _ _ _ _ c.requires.1 c.from.ensures c.from-2.ensures
      c.first_variables-there.ensures.0 (rw c.from-3.ensures at c.first_variables-there.ensures.1)
      (rw c.from-4.ensures at c.from-link.ensures),
  rw (c.from.ensures, c.from-2.ensures) c.requires.2,
)

pub marks_of_shape-requires : goal.marks_of_shape-requires
marks_of_shape-requires c = let (a, size, _) = c.requires in
    let b = a.clause in
    (head_shape a.situation b _ _ _ _ (c.loop-link.invariant.0 a.situation b) c.loop-link-test.true, c.loop-link.auto.found ∙ size, c.loop-link.invariant.1)

pub overflow_add-s : goal.overflow_add-s
overflow_add-s c = let a = c.requires.0 in
    omega (arith, head_few a.situation a.clause _ _ _ _ (c.loop-link.invariant.0 a.situation a.clause) c.loop-link-test.true)

pub offset_bounds-program-s : goal.offset_bounds-program-s
offset_bounds-program-s c = let a = c.requires.0 in
    omega (arith, head_few a.situation a.clause _ _ _ _ (c.loop-link.invariant.0 a.situation a.clause) c.loop-link-test.true)

pub bounds-program-s : goal.bounds-program-s
bounds-program-s c = let a = c.requires.0 in
    omega (arith, head_few a.situation a.clause _ _ _ _ (c.loop-link.invariant.0 a.situation a.clause) c.loop-link-test.true, (asked_head_in_dir a).1)

pub loop-link-smaller : goal.loop-link-smaller
loop-link-smaller c = let a = c.requires.0 in
    head_nearer a.situation a.clause _ _ _ _ (c.loop-link.invariant.0 a.situation a.clause) c.loop-link-test.true _ c.from-link-in-loop-link.ensures

pub returns : goal.returns
returns c = (
  λ w. let b = asked_clause c.requires.0 w in head_ends w b _ _ _ _ (c.loop-link.invariant.0 w b) c.loop-link-test.false,
  rw (c.from.ensures, c.from-2.ensures) at c.loop-link.invariant.1,
)

pub loop-link-preserved : goal.loop-link-preserved
loop-link-preserved c = (
  λ w b.
      let v = c.loop-link.invariant.0 w b in
      let some = c.loop-link-test.true in
      let (marked, told) = c.marks_of_shape.ensures.0 (head_shape w b _ _ _ _ v some) in
      head_on w b _ _ _ _ v some marked ((elim c.if-marks_of_shape.branch [ then-marks_of_shape z ↦ λ t. rw z.any-is tt | else-marks_of_shape z ↦ λ t. rw z.any-is t ]))
      (λ N o. (elim c.if-marks_of_shape.branch [ then-marks_of_shape z ↦ rw z.any-is tt | else-marks_of_shape z ↦ absurd (rw z.if-marks_of_shape.false at (told N o)) ])) _ c.from-link-in-loop-link.ensures,
  c.marks_of_shape.ensures.1,
)
