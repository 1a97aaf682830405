-- `keep_answers` meets its contract: the set has gained the answers passed. Assumes nothing.
use native.Mathlib.Omega.{arith}
use Rattle.joining.proofs.KeptMasks.{answer_small, kept_one}
use Rattle.joining.proofs.kept.keep_answers.Goals as goal

pub keep_mask-requires : goal.keep_mask-requires
keep_mask-requires c = let w = c.requires in
    omega (arith, w.kept.near, answer_small w.kept c.args.answers.now c.loop-answer.answer-index _ c.renumber.ensures, c.loop-answer.invariant.as_long, w.size)

pub loop-answer-preserved : goal.loop-answer-preserved
loop-answer-preserved c = kept_one c.requires.kept c.args.answers.now c.loop-answer.answer-index _ c.renumber.ensures c.loop-answer-test.true c.loop-answer.invariant c.keep_mask.ensures
