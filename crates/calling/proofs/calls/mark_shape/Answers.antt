-- `mark_shape` meets its contract. The invariant: the marks of the call rows from the link on are in the set. The measure is the link. Assumes nothing.
use Prim.Native.Nat.{◌-◌}
use native.Mathlib.Omega.{arith}
use Rattle.calling.proofs.MarkWalks.{marking_begins, marking_there, marking_nearer, marking_on, marking_ends}
use Rattle.calling.proofs.calls.mark_shape.Goals as goal

pub loop-link-init : goal.loop-link-init
loop-link-init c = λ a. marking_begins a _ c.requires.1

pub mask_at-requires : goal.mask_at-requires
mask_at-requires c = let asked = c.requires.0 in
    marking_there asked _ (c.loop-link.invariant asked) _ (omega (arith, c.loop-link-test.true))

pub before_at-link-requires : goal.before_at-link-requires
before_at-link-requires c = let asked = c.requires.0 in
    marking_there asked _ (c.loop-link.invariant asked) (c.loop-link.link - 1) (omega (arith, c.loop-link-test.true))

pub loop-link-smaller : goal.loop-link-smaller
loop-link-smaller c = let asked = c.requires.0 in
    marking_nearer asked _ (c.loop-link.invariant asked) (c.loop-link.link - 1) (omega (arith, c.loop-link-test.true)) _ c.before_at-link.ensures

pub loop-link-preserved : goal.loop-link-preserved
loop-link-preserved c = λ a.
    let taken = c.loop-link-test.true in
    marking_on a _ (c.loop-link.invariant a) (c.loop-link.link - 1) (omega arith) _ _ c.insert.result _ (omega arith)
    (rw c.mask_at.ensures at c.passed.ensures) c.insert.auto.set c.insert.ensures c.before_at-link.ensures

pub returns : goal.returns
returns c = λ a. marking_ends a _ (c.loop-link.invariant a) c.loop-link-test.false
