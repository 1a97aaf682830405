-- `mark_head` meets its contract. The invariant: the marks of the shapes below the link are in the set, and the notes are of the head. The measure
-- is how many links may follow. Assumes nothing.
use Rattle.steps.specs.Situation.{Situation, ClauseOf}
use Rattle.steps.specs.Unifiers.{Notes}
use Rattle.steps.proofs.ShapeLinks.{shapes_left}
use Rattle.calling.proofs.HeadVisits.{HeadVisiting}
use Rattle.calling.proofs.calls.mark_head.Given as goal

abbrev pub invariant-loop-link : goal.invariant-loop-link
invariant-loop-link l =
    ((w : Situation l.program.words.now l.program.dir.now l.table l.heads l.since l.rows) (b : ClauseOf w.p l.k) → HeadVisiting w b l.initial.found l.head.start l.head.cells l.there l.link l.found l.any)
    × Notes l.program.words.now l.program.dir.now l.head.start l.head.cells l.unifiers

abbrev pub decreases-loop-link : goal.decreases-loop-link
decreases-loop-link l = shapes_left l.link
