-- `settle` meets its contract: the answers at the back before place i are listed.
-- Assumes nothing.
use native.Mathlib.Omega.{arith}
use lib.ListN.{get_or}
use Prim.Native.Nat.{◌<◌}
use Rattle.joining.proofs.Settling.{settled_there, settled_new}
use Rattle.joining.proofs.answers.settle.Goals as goal
use Rattle.joining.proofs.answers.settle.Goals.{else-insert, then-insert}

pub loop-i-preserved : goal.loop-i-preserved
loop-i-preserved c = let w = c.requires in
    let small : get_or c.loop-i.answers c.loop-i.i 0 < 65536 = omega arith in
    (elim c.if-insert.branch [ then-insert v ↦ rw (v.answers-is, v.all-is) (settled_new w c.loop-i.invariant c.loop-i-test.true small c.insert.auto.set (rw v.if-insert.true at c.insert.ensures)) | else-insert v ↦ rw (v.answers-is, v.all-is) (settled_there w c.loop-i.invariant c.loop-i-test.true small c.insert.auto.set (rw v.if-insert.false at c.insert.ensures)) ])
