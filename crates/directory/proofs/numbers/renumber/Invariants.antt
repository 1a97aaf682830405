-- `renumber` meets its contract. The invariant: the cells passed stand renumbered. Assumes nothing.
use Rattle.directory.specs.Numbers.{Renumbered}
use Rattle.directory.proofs.numbers.renumber.Given as goal

abbrev pub invariant-loop-i : goal.invariant-loop-i
invariant-loop-i l = Renumbered l.run l.table l.initial.dir l.dir l.to l.i
