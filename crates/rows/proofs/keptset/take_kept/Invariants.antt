-- `take_kept` meets its contract: the words passed are without what is kept. Assumes nothing.
use Rattle.rows.proofs.KeptWords.{Without}
use Rattle.rows.proofs.keptset.take_kept.Given as goal

abbrev pub invariant-loop-i : goal.invariant-loop-i
invariant-loop-i l = Without l.kept l.first l.i l.initial.found l.found l.left
