-- `keep_answers` meets its contract: the set has gained the answers passed. Assumes nothing.
use Prim.Native.Nat.{◌*◌}
use lib.ListN.{take}
use Rattle.rows.specs.KeptSets.{Gained}
use Rattle.joining.specs.KeptAnswers.{answer_set, Ordered}
use Rattle.joining.proofs.kept.keep_answers.Given as goal

abbrev pub invariant-loop-answer : goal.invariant-loop-answer
invariant-loop-answer l = Gained (Ordered l.order.variables l.order.count (take l.answer-index l.answers)) (answer_set * l.j) answer_set l.initial.answered l.answered
