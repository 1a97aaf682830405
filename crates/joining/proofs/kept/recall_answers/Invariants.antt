-- `recall_answers` meets its contract: the kept masks below q are listed. Assumes nothing.
use Rattle.joining.specs.Answers.{Found}
use Rattle.joining.specs.KeptAnswers.{Recalled}
use Rattle.joining.proofs.kept.recall_answers.Given as goal

abbrev pub invariant-loop-q : goal.invariant-loop-q
invariant-loop-q l = Found (Recalled l.order.variables l.order.count l.answered l.j l.q) l.seen l.answers l.upto l.all l.initial.answers
