-- `mark_conts` meets its contract. The invariant: the set has gained the marks that the cont rows behind the link make. The measure is the link, which
-- falls. Assumes nothing.
use Rattle.joining.specs.Joined.{ContsThere}
use Rattle.joining.proofs.JoinSteps.{MarksWalk}
use Rattle.joining.proofs.joins.mark_conts.Given as goal

abbrev pub invariant-loop-link : goal.invariant-loop-link
invariant-loop-link l = (w : ContsThere l.table l.answers.fresh.now l.answers.all.now l.newest) → MarksWalk w l.since l.there l.initial.found l.link l.found

abbrev pub decreases-loop-link : goal.decreases-loop-link
decreases-loop-link l = l.link
