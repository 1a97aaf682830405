-- `mask` meets its contract. The invariant: the mask is that of the modes passed, which are the last ones. Assumes nothing.
use Prim.Native.Nat.{◌-◌}
use native.Mathlib.Omega.{arith}
use lib.ListN.{length}
use Rattle.std.proofs.lemmas.List.{length-reverse}
use Rattle.std.proofs.lemmas.Iterator.Consumers.{YieldsList-turn}
use Rattle.std.proofs.lemmas.Iterator.Adapters.{YieldsList-from_rev_slice}
use Rattle.directory.proofs.GoalWalk.{mask_fits, mode_fits}
use Rattle.directory.proofs.goal.mask.Goals as goal

pub overflow_mul-mask : goal.overflow_mul-mask
overflow_mul-mask c = let M = c.args.modes.now in
    let t = YieldsList-turn (YieldsList-from_rev_slice M cc) c.loop-mode.yielded _ c.loop-mode.yielded_by _ _ _ c.in-Some.is c.next.ensures.steps in
    omega (arith, c.loop-mode.invariant.1, mask_fits M (length M - length c.loop-mode.yielded) (omega (arith, t.0, length-reverse M)) c.requires.0 c.requires.1)

pub overflow_add-mask : goal.overflow_add-mask
overflow_add-mask c = let M = c.args.modes.now in
    let t = YieldsList-turn (YieldsList-from_rev_slice M cc) c.loop-mode.yielded _ c.loop-mode.yielded_by _ _ _ c.in-Some.is c.next.ensures.steps in
    omega (arith, c.loop-mode.invariant.1, mask_fits M (length M - length c.loop-mode.yielded) (omega (arith, t.0, length-reverse M)) c.requires.0 c.requires.1, mode_fits M _ _ c.requires.0 (omega (arith, t.0, length-reverse M)) (t.1))
