-- The invariant of `are_terms`: the run is terms if the cells from here on are as many as are left.
use Rattle.unify_main.proofs.AtomRuns.{Left}
use Rattle.unify_main.proofs.atom.are_terms.Given as goal

abbrev pub invariant-loop-at : goal.invariant-loop-at
invariant-loop-at l = Left l.functions l.run l.n l.at l.left
