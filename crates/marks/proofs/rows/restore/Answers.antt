-- `restore` meets its contract: the result is right for the shape's first k variables. Assumes nothing.
use Rattle.std.proofs.Common.{◌≡◌, ◌∙◌, get_or}
use Rattle.marks.proofs.RowMasks.{in_first, restored_marked, restored_unmarked}
use Rattle.marks.proofs.rows.restore.Goals as goal
use Rattle.marks.proofs.rows.restore.Goals.{else-marks, then-marks}

pub loop-k-preserved : goal.loop-k-preserved
loop-k-preserved c = let l = c.loop-k in
    let order = c.args.order.now.variables in
    (elim c.if-marks.branch [
      | then-marks w ↦
          let read : w.from.result ≡ get_or order l.k 0 = w.from.ensures ∙ in_first order c.args.order.now.count l.k c.loop-k-test.true in
          rw (w.restored-is, w.mark-restored.ensures, read) (restored_marked order l.k c.args.mask l.restored l.invariant (c.marks.ensures.0 (rw w.if-marks.true tt)))
      | else-marks w ↦ rw w.restored-is (restored_unmarked order l.k c.args.mask l.restored l.invariant (λ h. rw w.if-marks.false at (c.marks.ensures.1 h)))
    ])
