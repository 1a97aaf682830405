-- `renumber` meets its contract: the result is right for the shape's first k variables. Assumes nothing.
use Rattle.std.proofs.Common.{◌≡◌, ◌∙◌, get_or}
use Rattle.marks.proofs.RowMasks.{in_first, reordered_marked, reordered_unmarked}
use Rattle.marks.proofs.rows.renumber.Goals as goal
use Rattle.marks.proofs.rows.renumber.Goals.{else-marks, then-marks}

pub loop-k-preserved : goal.loop-k-preserved
loop-k-preserved c = let l = c.loop-k in
    let order = c.args.order.now.variables in
    let read : c.from.result ≡ get_or order l.k 0 = c.from.ensures ∙ in_first order c.args.order.now.count l.k c.loop-k-test.true in
    let tested = rw read at c.marks.ensures in
    (elim c.if-marks.branch [
      | then-marks w ↦ rw (w.renumbered-is, w.mark-renumbered.ensures) (reordered_marked order l.k c.args.mask l.renumbered l.invariant (tested.0 (rw w.if-marks.true tt)))
      | else-marks w ↦ rw w.renumbered-is (reordered_unmarked order l.k c.args.mask l.renumbered l.invariant (λ h. rw w.if-marks.false at (tested.1 h)))
    ])
