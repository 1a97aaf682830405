-- `enter_heads` meets its contract: the clauses passed are entered. Assumes nothing.
use mathlib.Core.Path.{◌≡◌}
use lib.ListN.{get_or}
use Rattle.program.specs.Program.{Program}
use Rattle.directory.specs.Layout.{clause_count}
use Rattle.steps.specs.Situation.{Setting}
use Rattle.concerns.proofs.ClauseIndex.{HeadsBelow}
use Rattle.concerns.proofs.index.enter_heads.Given as goal

abbrev pub invariant-loop-k : goal.invariant-loop-k
invariant-loop-k l = (l.clauses ≡ get_or l.program.dir.now clause_count 0) × ((p : Program) → Setting l.program.words.now l.program.dir.now p → HeadsBelow p l.set l.k)
