-- `answers_to` meets its contract: the answers of the predicate's shapes that are passed stand in the list. The measure is how many shapes may be left.
-- Assumes nothing.
use Rattle.steps.specs.Situation.{BodyOf}
use Rattle.steps.proofs.ShapeLinks.{shapes_left}
use Rattle.joining.specs.Standings.{SituationOf}
use Rattle.joining.proofs.AnswersOfShapes.{Shaped}
use Rattle.joining.proofs.answers.answers_to.Given as goal

abbrev pub invariant-loop-link : goal.invariant-loop-link
invariant-loop-link l = (w : SituationOf l.standing) (b : BodyOf w.p l.j)
    → Shaped w.p l.standing.table.now b.A l.from l.standing.since l.standing.before l.link l.seen l.answers l.sides.fresh l.sides.older

abbrev pub decreases-loop-link : goal.decreases-loop-link
decreases-loop-link l = shapes_left l.link
