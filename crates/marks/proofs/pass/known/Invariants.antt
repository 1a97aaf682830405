-- `known` meets its contract: the loop gathers the sets of the variables that are done, lowest first. Assumes nothing.
use Prim.Native.Nat.{◌^◌, ◌<◌}
use Rattle.terms.specs.Cells.{variables}
use Rattle.marks.proofs.MaskLoops.{Within, Gathered}
use Rattle.marks.proofs.pass.known.Given as goal

abbrev pub invariant-loop-left : goal.invariant-loop-left
invariant-loop-left l = (l.left < 2 ^ variables) × Within l.initial.left l.left × Gathered l.sets l.base l.initial.left l.left l.all

abbrev pub decreases-loop-left : goal.decreases-loop-left
decreases-loop-left l = l.left
