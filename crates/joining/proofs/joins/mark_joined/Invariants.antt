-- `mark_joined` meets its contract. The invariant: the set has gained the marks of the answers passed. Assumes nothing.
use lib.ListN.{take}
use Rattle.steps.specs.Heads.{Collected}
use Rattle.joining.specs.Joined.{JoinedWith, KeptOf}
use Rattle.joining.proofs.joins.mark_joined.Given as goal

abbrev pub invariant-loop-answer : goal.invariant-loop-answer
invariant-loop-answer l = Collected (KeptOf l.there (JoinedWith l.mask (take l.answer-index l.answers))) l.initial.found l.found
