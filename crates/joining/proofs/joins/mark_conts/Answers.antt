-- `mark_conts` meets its contract. The invariant: the set has gained the marks that the cont rows behind the link make. The measure is the link, which
-- falls. Assumes nothing.
use native.Mathlib.Omega.{arith}
use mathlib.Core.Path.{◌≡◌}
use Rattle.joining.proofs.JoinSteps.{marks_row_room, marks_row_falls, marks_row_done}
use Rattle.joining.proofs.joins.mark_conts.Goals as goal

pub mask_at-requires : goal.mask_at-requires
mask_at-requires c = let w = c.requires.0 in marks_row_room w (c.loop-link.invariant w) c.loop-link-test.true

pub before_at-link-requires : goal.before_at-link-requires
before_at-link-requires c = let w = c.requires.0 in marks_row_room w (c.loop-link.invariant w) c.loop-link-test.true

pub loop-link-smaller : goal.loop-link-smaller
loop-link-smaller c = let w = c.requires.0 in rw c.before_at-link.ensures (marks_row_falls w (c.loop-link.invariant w) c.loop-link-test.true)

pub loop-link-preserved : goal.loop-link-preserved
loop-link-preserved c = λ w.
    rw c.before_at-link.ensures (marks_row_done w (c.loop-link.invariant w) c.loop-link-test.true c.due-due.ensures c.mask_at.ensures c.mark_joined.ensures)

pub returns : goal.returns
returns c = λ w.
    let e : c.loop-link.link ≡ 0 = omega (arith, c.loop-link-test.false) in
    rw e at (c.loop-link.invariant w).marked
