-- The invariant of `sets_of`: the sets are those of the store with the bindings of the variables passed.
use Rattle.terms.proofs.Refilled.{Refilled}
use Rattle.terms.proofs.unifier.Atoms.sets_of.Given as goal

abbrev pub invariant-loop-x : goal.invariant-loop-x
invariant-loop-x l = Refilled l.self.functions.now l.self.a.now l.self.b.now l.places l.sets l.x
