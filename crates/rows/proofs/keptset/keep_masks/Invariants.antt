-- `keep_masks` meets its contract: the words passed have what is found besides. Assumes nothing.
use Rattle.rows.proofs.KeptWords.{Beside}
use Rattle.rows.proofs.keptset.keep_masks.Given as goal

abbrev pub invariant-loop-i : goal.invariant-loop-i
invariant-loop-i l = Beside l.found l.first l.i l.initial.kept l.kept
