-- `clauses` meets its contract. The loop's invariant: the answer for the clauses that are left is the answer for all.
use Prim.Native.Nat.{◌-◌}
use Rattle.program.specs.Faults.{clause}
use Rattle.program.proofs.Parts.{Onward}
use Rattle.program.proofs.atoms.Arities.clauses.Given as goal

abbrev pub invariant-loop : goal.invariant-loop
invariant-loop l = Onward l.from.words.now (clause l.self.predicates.now l.self.functions.now) l.from l.count l.at (l.count - l.counter)
