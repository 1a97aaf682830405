-- `emit_shape` meets its contract. The invariant: what the call rows from the link on give is there. The measure is the link. Assumes nothing.
use native.Mathlib.Omega.{arith}
use Prim.Native.Nat.{◌-◌}
use Rattle.rows.proofs.AddedRows.{reached_err}
use Rattle.calling.proofs.CallWalks.{walking_begins, walking_there, walking_nearer, walking_reached, walking_full, walking_on, walking_ends}
use Rattle.calling.proofs.calls.emit_shape.Goals as goal

pub loop-link-init : goal.loop-link-init
loop-link-init c = λ a. walking_begins a _ _ _ _ c.requires.1

pub mask_at-requires : goal.mask_at-requires
mask_at-requires c = let (asked, writable, behind) = c.requires in
    walking_there asked _ _ _ _ behind (c.loop-link.invariant asked) _ (omega (arith, c.loop-link-test.true))

pub emit-requires : goal.emit-requires
emit-requires c = let (asked, writable, behind) = c.requires in
    let w = c.loop-link.invariant asked in
    (asked.place, w.grew.writable, omega (arith, behind, w.grew.more))

pub returns-in_err-rows-clause-stepped : goal.returns-in_err-rows-clause-stepped
returns-in_err-rows-clause-stepped c = λ a.
    let taken = c.loop-link-test.true in
    let w = c.loop-link.invariant a in
    let marks = rw c.mask_at.ensures at c.passed-q.ensures in
    rw (reached_err _ _ c.from_residual.ensures.0)
    (walking_full a _ _ _ _ c.requires.2 w (c.loop-link.link - 1) (omega arith) c.passed-q.result (omega arith) marks
    (rw c.in_err-rows.was at (c.emit.ensures.stepped a.place (walking_reached a _ _ _ _ c.requires.2 w (c.loop-link.link - 1) (omega arith) c.passed-q.result (omega arith) marks)))
    (omega arith) _)

pub before_at-link-requires : goal.before_at-link-requires
before_at-link-requires c = let (asked, writable, behind) = c.requires in
    rw c.emit.auto.table
    (walking_there asked _ _ _ _ behind (c.loop-link.invariant asked) (c.loop-link.link - 1) (omega (arith, c.loop-link-test.true)))

pub loop-link-smaller : goal.loop-link-smaller
loop-link-smaller c = let (asked, writable, behind) = c.requires in
    let taken = c.loop-link-test.true in
    let w = c.loop-link.invariant asked in
    let marks = rw c.mask_at.ensures at c.passed-q.ensures in
    walking_nearer asked _ _ _ _ behind w (c.loop-link.link - 1) (omega arith) c.passed-q.result (omega arith) marks
    (rw c.in_ok-rows.was at (c.emit.ensures.stepped asked.place (walking_reached asked _ _ _ _ behind w (c.loop-link.link - 1) (omega arith) c.passed-q.result (omega arith) marks)))
    (rw c.in_ok-rows.was at c.emit.ensures.within) _ c.before_at-link.ensures

pub loop-link-preserved : goal.loop-link-preserved
loop-link-preserved c = λ a.
    let taken = c.loop-link-test.true in
    let behind = c.requires.2 in
    let w = c.loop-link.invariant a in
    let marks = rw c.mask_at.ensures at c.passed-q.ensures in
    walking_on a _ _ _ _ behind w (c.loop-link.link - 1) (omega arith) c.passed-q.result (omega arith) marks
    (rw c.in_ok-rows.was at (c.emit.ensures.stepped a.place (walking_reached a _ _ _ _ behind w (c.loop-link.link - 1) (omega arith) c.passed-q.result (omega arith) marks)))
    (rw c.in_ok-rows.was at c.emit.ensures.within) _ c.before_at-link.ensures

pub returns-clause-stepped : goal.returns-clause-stepped
returns-clause-stepped c = λ a. walking_ends a _ _ _ _ (c.loop-link.invariant a) c.loop-link-test.false

pub returns-clause-within : goal.returns-clause-within
returns-clause-within c = (c.loop-link.invariant c.requires.0).grew.writable.within
