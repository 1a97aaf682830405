-- `cells::cells::read_cells` meets its contract. The loop's invariant: the line so far stands in the room, and what is left of it decides. Assumes nothing.
use Prim.Native.Nat.{◌-◌}
use lib.ListN.{length}
use Rattle.cells.proofs.Rows.{Turning}
use Rattle.cells.proofs.cells.read_cells.Given as goal

abbrev pub invariant-loop-at : goal.invariant-loop-at
invariant-loop-at l = Turning l.line.bytes.now l.from l.line.place l.query l.c l.symbols l.initial.words l.initial.modes l.count l.words l.modes l.p l.at

abbrev pub decreases-loop-at : goal.decreases-loop-at
decreases-loop-at l = length l.line.bytes.now - l.at
