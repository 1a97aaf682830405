-- `enter_bodies` meets its contract: the body atoms passed are entered. The measures are how many clauses, and how many of a clause's atoms, are left. Assumes nothing.
use Prim.Native.Nat.{◌+◌}
use mathlib.Core.Path.{◌≡◌}
use lib.ListN.{get_or}
use Rattle.program.specs.Program.{Program}
use Rattle.directory.specs.Layout.{clause_first, clause_count}
use Rattle.steps.specs.Situation.{Setting}
use Rattle.concerns.proofs.ClauseIndex.{BodiesBelow}
use Rattle.concerns.proofs.index.enter_bodies.Given as goal

abbrev pub invariant-loop-j : goal.invariant-loop-j
invariant-loop-j l = (p : Program) → Setting l.program.words.now l.program.dir.now p → BodiesBelow p l.set l.j

abbrev pub invariant-loop-k : goal.invariant-loop-k
invariant-loop-k l = (l.clauses ≡ get_or l.program.dir.now clause_count 0) × (l.first ≡ get_or l.program.dir.now (clause_first + l.k) 0) × ((p : Program) → Setting l.program.words.now l.program.dir.now p → BodiesBelow p l.set l.first)
