-- `restore` meets its contract: the result is right for the shape's first k variables. Assumes nothing.
use Rattle.marks.specs.Modes.{Restored}
use Rattle.marks.proofs.rows.restore.Given as goal

abbrev pub invariant-loop-k : goal.invariant-loop-k
invariant-loop-k l = Restored l.order.variables l.k l.mask l.restored
