-- `numbers` meets its contract. The invariant: the variables of the cells passed are numbered. Assumes nothing.
use Prim.Native.Nat.{◌≤◌}
use mathlib.Core.List.{[]}
use lib.ListN.{take}
use Rattle.directory.specs.Numbers.{met_cells, Numbered}
use Rattle.directory.proofs.numbers.numbers.Given as goal

abbrev pub invariant-loop-cell : goal.invariant-loop-cell
invariant-loop-cell l = (l.n ≤ l.cell-index) × Numbered (met_cells [] (take l.cell-index l.run)) l.table l.n
