-- The invariant of `replace`: the sets passed are replaced, the others are as they were.
use Rattle.terms.proofs.Replacing.{Halfway}
use Rattle.terms.proofs.unifier.replace.Given as goal

abbrev pub invariant-loop-set : goal.invariant-loop-set
invariant-loop-set l = Halfway l.x l.gained l.initial.sets l.sets l.set-index
