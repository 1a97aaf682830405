-- `clauses` meets its contract. The invariant: the clauses passed are written. Assumes nothing.
use mathlib.Core.Path.{◌≡◌}
use lib.ListN.{length}
use Rattle.directory.specs.Layout.{dir_words}
use Rattle.directory.specs.Walked.{ClausesWritten}
use Rattle.directory.specs.From.{ClausesFrom}
use Rattle.directory.proofs.places.clauses.Given as goal

abbrev pub invariant-loop-k : goal.invariant-loop-k
invariant-loop-k l = ((a : ClausesFrom l.declared.words.now l.from l.declared.predicates.now l.declared.functions.now l.count) → ClausesWritten l.declared.words.now a.clauses a.rest l.initial.dir l.dir l.k l.at) × (length l.initial.dir ≡ dir_words) × (length l.dir ≡ dir_words)
