-- `find` meets its contract. The invariant: the search goes on with the link in the slot. The measure is what is left behind the slot.
-- Assumes nothing.
use Prim.Native.Nat.{◌-◌, ◌≤◌}
use Rattle.program.specs.Limits.{max_shapes}
use Rattle.directory.specs.Layout.{shape_cells}
use Rattle.shaping.specs.Shaped.{Sought, Seeking}
use Rattle.shaping.proofs.shapes.find.Given as goal

abbrev pub invariant-loop-link : goal.invariant-loop-link
invariant-loop-link l = (l.link ≤ max_shapes) × ((a : Sought l.dir l.q l.cells l.to) → Seeking a.ss a.S l.q l.slot l.link)

abbrev pub decreases-loop-link : goal.decreases-loop-link
decreases-loop-link l = shape_cells - l.slot
