-- `forget` meets its contract: the words of the answers passed are cleared. Assumes nothing.
use Rattle.joining.proofs.Forgetting.{Forgotten}
use Rattle.joining.proofs.answers.forget.Given as goal

abbrev pub invariant-loop-answer : goal.invariant-loop-answer
invariant-loop-answer l = Forgotten l.initial.seen l.answers l.answer-index l.seen
