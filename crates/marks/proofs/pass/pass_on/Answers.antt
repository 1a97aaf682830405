-- `pass_on` meets its contract: of the variables that N does not mark, the loop finds those whose sets are inside the known ones. Assumes nothing.
use Prim.Native.Nat.{◌^◌, ◌≤◌, ◌<◌}
use native.Mathlib.Omega.{arith}
use mathlib.Core.Path.{◌≡◌}
use Rattle.terms.specs.Cells.{variables}
use Rattle.terms.specs.Mask.{Has}
use Rattle.marks.proofs.SingleBits.{lowest_turn}
use Rattle.marks.proofs.MaskLoops.{sorting_in, sorting_out}
use Rattle.marks.proofs.SetsPassed.{Inside, marked_of_ground}
use Rattle.marks.proofs.pass.pass_on.Goals as goal
use Rattle.marks.proofs.pass.pass_on.Goals.{else-set-ground_by, then-set-ground_by}

pub overflow_sub-left : goal.overflow_sub-left
overflow_sub-left c = let turn : Has c.loop-left.left c.lowest-y.result × (c.lowest-y.result < variables) × (2 ^ c.lowest-y.result ≤ c.loop-left.left) = lowest_turn _ _ c.loop-left-test.true c.loop-left.invariant.small c.lowest-y.ensures in
    omega (arith, (turn).2, c.mark-bit.ensures)

pub returns : goal.returns
returns c = let a = c.args in
    let z : c.loop-left.left ≡ 0 = omega arith in
    marked_of_ground a.sets.now a.from a.m a.here a.to a.n a.there _ _ c.known-ground_by.ensures (rw z at c.loop-left.invariant.sorted)

pub loop-left-preserved : goal.loop-left-preserved
loop-left-preserved c = let turn : Has c.loop-left.left c.lowest-y.result × (c.lowest-y.result < variables) × (2 ^ c.lowest-y.result ≤ c.loop-left.left) = lowest_turn _ _ c.loop-left-test.true c.loop-left.invariant.small c.lowest-y.ensures in
    let a = c.args in
    let In = Inside a.sets.now a.to c.known-ground_by.result in
    let h = (turn).0 in
    let s = c.loop-left.invariant in
    (elim c.if-set-ground_by.branch [ then-set-ground_by w ↦ rw (w.ground-is, c.mark-bit.ensures) (sorting_in In _ _ _ _ h s w.if-set-ground_by.true) | else-set-ground_by w ↦ rw (w.ground-is, c.mark-bit.ensures) (sorting_out In _ _ _ _ h s w.if-set-ground_by.false) ])
