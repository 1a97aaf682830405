-- `pass_on` meets its contract: of the variables that N does not mark, the loop finds those whose sets are inside the known ones. Assumes nothing.
use Rattle.marks.proofs.MaskLoops.{Sorting}
use Rattle.marks.proofs.SetsPassed.{Inside}
use Rattle.marks.proofs.pass.pass_on.Given as goal

abbrev pub invariant-loop-left : goal.invariant-loop-left
invariant-loop-left l = Sorting (Inside l.sets l.to l.ground_by) l.initial.left l.left l.ground

abbrev pub decreases-loop-left : goal.decreases-loop-left
decreases-loop-left l = l.left
