-- `emit_conts` meets its contract. The invariant: the rows that the cont rows behind the link make are there, and the set has marks of these alone.
-- The measure is the link, which falls. Assumes nothing.
use Prim.Native.Nat.{ℕ}
use native.Mathlib.Omega.{arith}
use mathlib.Core.Path.{◌∙◌, ap}
use mathlib.Core.Logic.{inr}
use lib.ListN.{length, length-replicate}
use Rattle.rows.specs.MaskSet.{set_words}
use Rattle.rows.proofs.AddedRows.{reached_err}
use Rattle.steps.proofs.Stepping.{stepped_past}
use Rattle.joining.proofs.JoinSteps.{conts_begin, row_asked, row_emitted, row_room, row_falls, row_done}
use Rattle.joining.proofs.joins.emit_conts.Goals as goal

pub loop-link-init : goal.loop-link-init
loop-link-init c = (ap length c.requires.3 ∙ length-replicate {A = ℕ} set_words 0, λ w. conts_begin w c.requires.1 c.requires.3)

pub mask_at-mask-requires : goal.mask_at-mask-requires
mask_at-mask-requires c = let walk = c.loop-link.invariant.1 c.requires.0 in
    omega (arith, c.loop-link-test.true, walk.within, c.requires.0.chain.fits, walk.grew.same_length)

pub emit_joined-requires : goal.emit_joined-requires
emit_joined-requires c = let w = c.requires.0 in
    let walk = c.loop-link.invariant.1 w in (
      row_asked w c.requires.2 walk c.loop-link-test.true c.due-due.ensures c.mask_at-mask.ensures,
      walk.grew.writable,
      omega (arith, c.requires.2, walk.grew.more),
      c.loop-link.invariant.0,
    )

pub returns-in_err-rows-clause-stepped : goal.returns-in_err-rows-clause-stepped
returns-in_err-rows-clause-stepped c = λ w. rw (reached_err _ _ c.from_residual.ensures.0) (inr
    (stepped_past _ _ _ _ _ _ _ _ _ _
    (row_emitted w c.requires.2 (c.loop-link.invariant.1 w) c.loop-link-test.true c.due-due.ensures c.mask_at-mask.ensures
    (rw c.in_err-rows.was at c.emit_joined.ensures.stepped))
    (omega arith)))

pub before_at-link-requires : goal.before_at-link-requires
before_at-link-requires c = let w = c.requires.0 in
    row_room w c.requires.2 (c.loop-link.invariant.1 w) c.loop-link-test.true c.due-due.ensures c.mask_at-mask.ensures
    (rw c.in_ok-rows.was at c.emit_joined.ensures.stepped) (rw c.in_ok-rows.was at c.emit_joined.ensures.within)

pub loop-link-smaller : goal.loop-link-smaller
loop-link-smaller c = let w = c.requires.0 in
    rw c.before_at-link.ensures
    (row_falls w c.requires.2 (c.loop-link.invariant.1 w) c.loop-link-test.true c.due-due.ensures c.mask_at-mask.ensures
    (rw c.in_ok-rows.was at c.emit_joined.ensures.stepped) (rw c.in_ok-rows.was at c.emit_joined.ensures.within))

pub loop-link-preserved : goal.loop-link-preserved
loop-link-preserved c = (
  c.emit_joined.auto.seen ∙ c.loop-link.invariant.0,
  λ w. rw c.before_at-link.ensures
      (row_done w c.requires.2 (c.loop-link.invariant.1 w) c.loop-link-test.true c.due-due.ensures c.mask_at-mask.ensures
      (rw c.in_ok-rows.was at c.emit_joined.ensures.stepped) (rw c.in_ok-rows.was at c.emit_joined.ensures.within) c.emit_joined.ensures.had),
)

pub returns-clause-within : goal.returns-clause-within
returns-clause-within c = (c.loop-link.invariant.1 c.requires.0).grew.writable.within
