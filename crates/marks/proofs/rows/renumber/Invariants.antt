-- `renumber` meets its contract: the result is right for the shape's first k variables. Assumes nothing.
use Rattle.marks.specs.Modes.{Reordered}
use Rattle.marks.proofs.rows.renumber.Given as goal

abbrev pub invariant-loop-k : goal.invariant-loop-k
invariant-loop-k l = Reordered l.order.variables l.k l.mask l.renumbered
