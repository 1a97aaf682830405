-- `of_met` meets its contract: where shape and atom unify, what the shape's rows pass on the unifier's sets are its answers; where they are apart there are none.
-- Assumes nothing.
use native.Mathlib.Omega.{arith}
use Rattle.joining.proofs.AnswersMet.{variables_read, asked, met_answers, apart_answers}
use Rattle.joining.proofs.answers.of_met.Goals as goal

pub overflow_add-s : goal.overflow_add-s
overflow_add-s c = omega (arith, variables_read c.requires, c.requires.meeting.setting.directory.size)

pub offset_bounds-standing-s : goal.offset_bounds-standing-s
offset_bounds-standing-s c = omega (arith, variables_read c.requires, c.requires.meeting.setting.directory.size)

pub bounds-standing-s : goal.bounds-standing-s
bounds-standing-s c = variables_read c.requires

pub returns-then-meet : goal.returns-then-meet
returns-then-meet c = λ w. met_answers w c.meet.new.sets c.first_variables-here.result c.first_variables-here.ensures.0
    (rw c.from.ensures at c.first_variables-here.ensures.1) (rw c.if-meet.true at (c.meet.ensures w.meeting))
    (c.of_shape.ensures (asked w))

pub returns : goal.returns
returns c = λ w. apart_answers w (rw c.if-meet.false at (c.meet.ensures w.meeting))
