-- `of_shape` meets its contract: the answers of the rows behind the link stand in the list. The measure is the link, which falls to an earlier row.
-- Assumes nothing.
use Rattle.joining.specs.AnswerSteps.{ShapeAsked, Walking}
use Rattle.joining.proofs.answers.of_shape.Given as goal

abbrev pub invariant-loop-link : goal.invariant-loop-link
invariant-loop-link l = (w : ShapeAsked l.standing.table.now l.initial.seen l.initial.answers l.newest l.from l.standing.since l.initial.sides.fresh l.initial.sides.older)
    → Walking w.p w.A w.k w.s w.rows l.standing.table.now l.passage.sets.now l.passage.here l.passage.there l.from l.standing.since l.seen l.answers l.sides.fresh l.sides.older l.link

abbrev pub decreases-loop-link : goal.decreases-loop-link
decreases-loop-link l = l.link
