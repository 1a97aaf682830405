-- `active` meets its contract: the clauses that the rows passed concern are in the set. Assumes nothing.
use Rattle.steps.specs.Situation.{Situation}
use Rattle.concerns.specs.Active.{Indexed}
use Rattle.concerns.proofs.ClauseIndex.{ActiveBelow}
use Rattle.concerns.proofs.active.active.Given as goal

abbrev pub invariant-loop-r : goal.invariant-loop-r
invariant-loop-r l = (w : Situation l.program.words.now l.program.dir.now l.table l.heads l.since l.rows) → Indexed w.p l.index.headed l.index.bodied → ActiveBelow w.p l.table l.since l.set l.r
