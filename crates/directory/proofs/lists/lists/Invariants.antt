-- `lists` meets its contract. The invariant: the lists of the clauses passed are made. Assumes nothing.
use mathlib.Core.Path.{◌≡◌}
use lib.ListN.{length}
use Rattle.directory.specs.Said.{said}
use Rattle.directory.specs.Walked.{Placed}
use Rattle.directory.specs.Lists.{Lists}
use Rattle.directory.proofs.lists.lists.Given as goal

abbrev pub invariant-loop-k : goal.invariant-loop-k
invariant-loop-k l = (l.count ≡ length (said l.words).clauses) × Placed l.words (said l.words) l.dir × Lists (said l.words) l.initial.dir l.dir l.k
