-- `terms` meets its contract. The loop's invariant: the answer for the terms that are left is the answer for all. The measure is how many words are left.
use lib.ListN.{length}
use Rattle.program.specs.Part.{left}
use Rattle.program.proofs.Taking.{OnwardTerms}
use Rattle.program.proofs.atoms.terms.Given as goal

abbrev pub invariant-loop-left : goal.invariant-loop-left
invariant-loop-left l = OnwardTerms l.from.words.now l.functions l.from l.asked l.seen l.at l.left l.taken l.known

abbrev pub decreases-loop-left : goal.decreases-loop-left
decreases-loop-left l = length (left l.at)
