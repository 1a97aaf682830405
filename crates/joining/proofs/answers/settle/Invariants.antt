-- `settle` meets its contract: the answers at the back before place i are listed.
-- Assumes nothing.
use Rattle.joining.proofs.Settling.{Settled}
use Rattle.joining.proofs.answers.settle.Given as goal

abbrev pub invariant-loop-i : goal.invariant-loop-i
invariant-loop-i l = Settled l.initial.answers l.fresh l.older l.seen l.answers l.all l.i
