-- `at_head` meets its contract. The invariant: what the shapes before the link give is there, and the notes are of the head. The measure
-- is how many shapes may be left. Assumes nothing.
use Rattle.steps.specs.Unifiers.{Notes}
use Rattle.steps.proofs.ShapeLinks.{shapes_left}
use Rattle.ends.specs.AtHead.{AtHead}
use Rattle.ends.proofs.HeadShapes.{Along}
use Rattle.ends.proofs.heads.at_head.Given as goal

abbrev pub invariant-loop-link : goal.invariant-loop-link
invariant-loop-link l = ((a : AtHead l.program.words.now l.program.dir.now l.initial.table l.heads l.known.words.now l.found.words.now l.at.since l.at.rows l.k l.known.below l.found.below)
    → Along a l.at.number l.at.room l.n l.initial.buckets l.head l.from l.link l.rows l.table l.buckets)
    × Notes l.program.words.now l.program.dir.now l.head.at.start l.head.at.cells l.unifiers

abbrev pub decreases-loop-link : goal.decreases-loop-link
decreases-loop-link l = shapes_left l.link
