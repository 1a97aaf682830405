-- `known` meets its contract: the loop gathers the sets of the variables that are done, lowest first. Assumes nothing.
use Prim.Native.Nat.{◌^◌, ◌≤◌, ◌<◌}
use native.Mathlib.Omega.{arith}
use mathlib.Core.Path.{◌≡◌}
use Rattle.terms.specs.Cells.{variables}
use Rattle.terms.specs.Mask.{Has}
use Rattle.marks.proofs.SingleBits.{lowest_turn}
use Rattle.marks.proofs.MaskLoops.{within_without, gathered_more}
use Rattle.marks.proofs.SetsPassed.{known_of_gathered}
use Rattle.marks.proofs.pass.known.Goals as goal

pub overflow_sub-left : goal.overflow_sub-left
overflow_sub-left c = let turn : Has c.loop-left.left c.lowest-x.result × (c.lowest-x.result < variables) × (2 ^ c.lowest-x.result ≤ c.loop-left.left) = lowest_turn _ _ c.loop-left-test.true c.loop-left.invariant.0 c.lowest-x.ensures in
    omega (arith, (turn).2, c.mark-left.ensures)

pub loop-left-preserved : goal.loop-left-preserved
loop-left-preserved c = let turn : Has c.loop-left.left c.lowest-x.result × (c.lowest-x.result < variables) × (2 ^ c.lowest-x.result ≤ c.loop-left.left) = lowest_turn _ _ c.loop-left-test.true c.loop-left.invariant.0 c.lowest-x.ensures in
    let i = c.loop-left.invariant in
    let a = c.args in
    let h = (turn).0 in
    rw c.mark-left.ensures
    (omega (arith, i.0), within_without _ _ _ h i.1, gathered_more a.sets.now a.base _ _ _ _ h i.1 i.2)

pub returns : goal.returns
returns c = let a = c.args in
    let z : c.loop-left.left ≡ 0 = omega arith in
    known_of_gathered a.sets.now a.base a.mask a.present _ (rw z at c.loop-left.invariant.2)
