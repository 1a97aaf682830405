-- `atoms` meets its contract. The loop's invariant: the answer for the atoms that are left is the answer for all.
use Prim.Native.Nat.{◌-◌}
use Rattle.program.proofs.AtomParts.{OnwardAtoms}
use Rattle.program.proofs.atoms.Arities.atoms.Given as goal

abbrev pub invariant-loop : goal.invariant-loop
invariant-loop l = OnwardAtoms l.from.words.now l.self.predicates.now l.self.functions.now l.from l.count l.seen l.at (l.count - l.counter) l.known
