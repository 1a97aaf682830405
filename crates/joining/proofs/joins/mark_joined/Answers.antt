-- `mark_joined` meets its contract. The invariant: the set has gained the marks of the answers passed. Assumes nothing.
use mathlib.Core.Path.{◌∙◌}
use Rattle.joining.proofs.JoinSteps.{answer_marked}
use Rattle.joining.proofs.joins.mark_joined.Goals as goal

pub loop-answer-preserved : goal.loop-answer-preserved
loop-answer-preserved c = let inv = c.loop-answer.invariant in
    answer_marked c.args.mask c.args.answers.now c.args.there _ c.loop-answer-test.true c.together.ensures c.kept.ensures
    (c.insert.auto.set ∙ inv.size) c.insert.ensures inv
