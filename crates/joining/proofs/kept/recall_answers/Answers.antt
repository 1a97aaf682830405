-- `recall_answers` meets its contract: the kept masks below q are listed. Assumes nothing.
use Prim.Native.Nat.{◌^◌}
use native.Mathlib.Omega.{arith}
use mathlib.Core.Path.{◌≡◌}
use Rattle.joining.proofs.AnswerLists.{found_as}
use Rattle.joining.proofs.KeptMasks.{few_masks, recall_room, recall_not, recall_there, recall_new}
use Rattle.joining.proofs.kept.recall_answers.Goals as goal
use Rattle.joining.proofs.kept.recall_answers.Goals.{then-is_kept+then-insert, then-is_kept+else-insert, else-is_kept}

pub bounds-answers-all : goal.bounds-answers-all
bounds-answers-all c = omega (arith, recall_room c.requires c.loop-q.invariant, c.loop-q.invariant.listing.list_size)

pub loop-q-preserved : goal.loop-q-preserved
loop-q-preserved c = let w = c.requires in
    let f = c.loop-q.invariant in
    let in_set_law = c.is_kept.ensures in
    elim c.if-is_kept.branch [
      | then-is_kept+then-insert v ↦ found_as v.seen-is v.answers-is v.all-is (recall_new w f (in_set_law.0 (rw v.if-is_kept.true tt)) v.restore-mask.ensures v.insert.auto.set (rw v.if-insert.true at v.insert.ensures))
      | then-is_kept+else-insert v ↦ found_as v.seen-is v.answers-is v.all-is (recall_there w f (in_set_law.0 (rw v.if-is_kept.true tt)) v.restore-mask.ensures v.insert.auto.set (rw v.if-insert.false at v.insert.ensures))
      | else-is_kept v ↦ found_as v.seen-is v.answers-is v.all-is (recall_not w f (λ h. rw v.if-is_kept.false at (in_set_law.1 h)))
    ]

pub returns : goal.returns
returns c = let e : c.loop-q.q ≡ 2 ^ c.args.order.now.count = omega (arith, c.loop-q-test.false, c.loop-q.auto.q-end, few_masks c.requires.kept) in
    rw e at c.loop-q.invariant
