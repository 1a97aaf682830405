-- `marks_of_shape` meets its contract: a shape without a new call row, or apart from the head, gives no marks; else its call rows are walked.
-- Assumes nothing.
use native.Mathlib.Omega.{arith}
use borrow.Author.Tests.{not-true, not-false}
use Rattle.calling.proofs.MetShapes.{shape_in_dir, shape_slot, shape_meeting, opened_old, opened_apart, mark_calls}
use Rattle.steps.proofs.MarkedSets.{marked_none}
use Rattle.calling.proofs.calls.marks_of_shape.Goals as goal

pub offset_bounds-heads-s : goal.offset_bounds-heads-s
offset_bounds-heads-s c = omega (arith, (shape_in_dir c.requires.0.shape).0)

pub bounds-heads-s : goal.bounds-heads-s
bounds-heads-s c = shape_slot c.requires.0.shape

pub returns-then-newest-since : goal.returns-then-newest-since
returns-then-newest-since c = let (_, size, notes) = c.requires in (
  λ a.
      let none = opened_old a.shape _ c.from-newest.ensures c.if-newest-since.true in
      (marked_none _ size none, λ N o. absurd (none N o)),
  notes,
)

pub meet_noting-requires : goal.meet_noting-requires
meet_noting-requires c = let (asked, _, notes) = c.requires in (shape_meeting asked.shape, notes)

pub returns-then-not-meet_noting : goal.returns-then-not-meet_noting
returns-then-not-meet_noting c = let (met, notes) = c.meet_noting.ensures in (
  λ a.
      let none = opened_apart a.shape (rw (not-true c.meet_noting.result c.if-not-meet_noting.true-raw) at (met (shape_meeting a.shape))) in
      (marked_none _ c.requires.1 none, λ N o. absurd (none N o)),
  notes,
)

pub overflow_add-s : goal.overflow_add-s
overflow_add-s c = omega (arith, (shape_in_dir c.requires.0.shape).0)

pub offset_bounds-program-s : goal.offset_bounds-program-s
offset_bounds-program-s c = omega (arith, (shape_in_dir c.requires.0.shape).0)

pub bounds-program-s : goal.bounds-program-s
bounds-program-s c = let few = shape_in_dir c.requires.0.shape in omega (arith, few.0, few.1)

pub mark_shape-requires : goal.mark_shape-requires
mark_shape-requires c = let (asked, size, _) = c.requires in (
  mark_calls asked _ _ _ c.from-newest.ensures
      (rw (not-false c.meet_noting.result c.if-not-meet_noting.false-raw) at (c.meet_noting.ensures.0 (shape_meeting asked.shape)))
      c.first_variables-here.ensures.0 (rw c.from.ensures at c.first_variables-here.ensures.1),
  size,
)

pub returns : goal.returns
returns c = let (met, notes) = c.meet_noting.ensures in (
  λ a. (
    c.mark_shape.ensures (mark_calls a _ _ _ c.from-newest.ensures
        (rw (not-false c.meet_noting.result c.if-not-meet_noting.false-raw) at (met (shape_meeting a.shape)))
        c.first_variables-here.ensures.0 (rw c.from.ensures at c.first_variables-here.ensures.1)),
    λ N o. tt,
  ),
  notes,
)
