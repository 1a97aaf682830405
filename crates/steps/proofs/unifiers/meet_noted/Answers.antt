-- `meet_noted` meets its contract: the next note is of this shape where its first word says so, and else nothing is taken. Assumes nothing.
use native.Mathlib.Omega.{arith}
use Rattle.steps.proofs.Meetings.{shape_few}
use Rattle.steps.proofs.NotedUnifiers.{next_room, next_apart, next_within, next_bindings, next_unified}
use Rattle.steps.proofs.unifiers.meet_noted.Goals as goal

pub overflow_mul-shape : goal.overflow_mul-shape
overflow_mul-shape c = omega (arith, shape_few c.requires.0)

pub take_apart-requires : goal.take_apart-requires
take_apart-requires c =
    (c.requires.1.fitting.room, next_room c.requires.1 c.in-Some.ensures c.args.shape)

pub returns-then-word-shape : goal.returns-then-word-shape
returns-then-word-shape c =
    next_apart c.requires.1 c.in-Some.ensures c.args.shape c.if-word-shape.true c.take_apart.ensures

pub overflow_mul-shape-in-Some : goal.overflow_mul-shape-in-Some
overflow_mul-shape-in-Some c = omega (arith, shape_few c.requires.0)

pub overflow_add-shape : goal.overflow_add-shape
overflow_add-shape c = omega (arith, shape_few c.requires.0)

pub take_unified-requires : goal.take_unified-requires
take_unified-requires c =
    next_within c.requires.1 c.in-Some.ensures c.args.shape c.if-word-shape-2.true

pub meet_stored-requires : goal.meet_stored-requires
meet_stored-requires c =
    (c.requires.0, next_bindings c.requires.1 c.in-Some.ensures c.args.shape c.if-word-shape-2.true c.take_unified.ensures)

pub returns-then-word-shape-2 : goal.returns-then-word-shape-2
returns-then-word-shape-2 c =
    (c.meet_stored.ensures, next_unified c.requires.1 c.in-Some.ensures c.args.shape c.if-word-shape-2.true c.take_unified.ensures)
