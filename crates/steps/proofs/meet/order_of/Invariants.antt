-- `order_of` meets its contract. The invariant: the variables of the cells passed are in the list by first appearance. Assumes nothing.
use mathlib.Core.List.{[]}
use lib.ListN.{take}
use Rattle.directory.specs.Numbers.{met_cells}
use Rattle.steps.proofs.Appearance.{Ordered}
use Rattle.steps.proofs.meet.order_of.Given as goal

abbrev pub invariant-loop-cell : goal.invariant-loop-cell
invariant-loop-cell l = Ordered (met_cells [] (take l.cell-index l.atom)) l.variables l.met l.count
