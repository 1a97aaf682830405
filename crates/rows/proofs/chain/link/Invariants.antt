-- `link` meets its contract: each turn puts one row more into the chain of its slot. Assumes nothing.
use Rattle.rows.specs.Linked.{Linked}
use Rattle.rows.proofs.chain.link.Given as goal

abbrev pub invariant-loop-r : goal.invariant-loop-r
invariant-loop-r l = Linked l.initial.table l.from l.r l.table l.heads
