-- `forget` meets its contract: the words of the answers passed are cleared. Assumes nothing.
use Rattle.std.proofs.Common.{rules}
use Rattle.joining.proofs.Forgetting.{forgotten_all}
use Rattle.joining.proofs.answers.forget.Goals as goal

pub returns : goal.returns
returns c = forgotten_all c.args.seen.now c.args.answers.now c.requires c.loop-answer.answer-index c.loop-answer-test.false (λ v. search rules) c.loop-answer.seen c.loop-answer.invariant
