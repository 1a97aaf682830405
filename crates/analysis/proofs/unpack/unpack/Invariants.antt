-- `unpack` meets its contract: the rows passed are entries. Assumes nothing.
use Rattle.analysis.specs.Unpacked.{Packed}
use Rattle.analysis.proofs.Unpacking.{Passed}
use Rattle.analysis.proofs.unpack.unpack.Given as goal

abbrev pub invariant-loop-r : goal.invariant-loop-r
invariant-loop-r l = (w : Packed l.program.words.now l.program.dir.now l.initial.table l.n) → Passed l.program.words.now l.program.dir.now l.initial.table l.n w l.r l.table
