-- `emit_joined` meets its contract. The invariant: the rows of the answers passed are there, and nothing but what the rules give; what the set has is
-- of those. Assumes nothing.
use Prim.Native.Nat.{◌+◌}
use native.Mathlib.Omega.{arith}
use mathlib.Core.Logic.{inl, inr}
use mathlib.Core.Path.{◌∙◌}
use Rattle.rows.proofs.AddedRows.{reached_err}
use Rattle.rows.proofs.MaskSets.{was_there}
use Rattle.steps.proofs.Stepping.{stepped_within, stepped_past}
use Rattle.joining.proofs.JoinSteps.{grew_as, had_more, had_all, answers_begin, answers_end, answer_had, answer_emitted}
use Rattle.joining.proofs.joins.emit_joined.Goals as goal
use Rattle.joining.proofs.joins.emit_joined.Goals.{then-insert+in_ok-rows, else-insert}

pub loop-answer-init : goal.loop-answer-init
loop-answer-init c = (c.requires.3, λ N h. inl h, λ w. answers_begin w c.requires.1)

pub emit-requires : goal.emit-requires
emit-requires c = let g = c.loop-answer.invariant.2 c.requires.0 in
    (c.requires.0.reaching.place, g.writable, omega (arith, g.more, c.requires.2))

pub returns-in_err-rows-clause-had : goal.returns-in_err-rows-clause-had
returns-in_err-rows-clause-had c =
    had_all c.args.seen.now _ _ (c.loop-answer.answer-index + 1) c.insert.new.set
    (had_more c.args.seen.now _ _ c.loop-answer-test.true c.together-both.ensures c.insert.ensures c.loop-answer.invariant.1)

pub returns-in_err-rows-clause-stepped : goal.returns-in_err-rows-clause-stepped
returns-in_err-rows-clause-stepped c = λ w. rw (reached_err _ _ c.from_residual.ensures.0) (inr
    (stepped_past _ _ _ _ _ _ _ _ _ _
    (answer_emitted w _ c.loop-answer-test.true c.together-both.ensures (c.loop-answer.invariant.2 w) c.requires.2 (rw c.in_err-rows.was at c.emit.ensures.stepped))
    (omega arith)))

pub loop-answer-preserved : goal.loop-answer-preserved
loop-answer-preserved c = let less = c.loop-answer-test.true in
    let t = c.together-both.ensures in
    let i = c.insert.ensures in (
      c.insert.auto.set ∙ c.loop-answer.invariant.0,
      had_more c.args.seen.now _ _ less t i c.loop-answer.invariant.1,
      λ w.
          elim c.if-insert.branch [
            | then-insert+in_ok-rows arm ↦ grew_as arm.rows-is arm.table-is arm.buckets-is (stepped_within _ _ _ _ _ _ _ _ _ _ (answer_emitted w _ less t (c.loop-answer.invariant.2 w) c.requires.2 (rw arm.in_ok-rows.was at arm.emit.ensures.stepped)) (rw arm.in_ok-rows.was at arm.emit.ensures.within))
            | else-insert arm ↦ grew_as arm.rows-is arm.table-is arm.buckets-is (answer_had w _ less t (c.loop-answer.invariant.2 w) (c.loop-answer.invariant.1 _ (was_there _ _ _ _ i (λ b. rw arm.if-insert.false at b))))
          ],
    )

pub returns-clause-had : goal.returns-clause-had
returns-clause-had c = had_all c.args.seen.now _ _ _ _ c.loop-answer.invariant.1

pub returns-clause-stepped : goal.returns-clause-stepped
returns-clause-stepped c = λ w. inl (answers_end w c.loop-answer-test.false (c.loop-answer.invariant.2 w))

pub returns-clause-within : goal.returns-clause-within
returns-clause-within c = (c.loop-answer.invariant.2 c.requires.0).writable.within
