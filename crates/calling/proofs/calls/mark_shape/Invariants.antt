-- `mark_shape` meets its contract. The invariant: the marks of the call rows from the link on are in the set. The measure is the link. Assumes nothing.
use Rattle.calling.specs.Calls.{MarkAsked}
use Rattle.calling.proofs.MarkWalks.{Marking}
use Rattle.calling.proofs.calls.mark_shape.Given as goal

abbrev pub invariant-loop-link : goal.invariant-loop-link
invariant-loop-link l = (a : MarkAsked l.table l.calls.sets.now l.calls.newest l.calls.here l.calls.there l.since) → Marking a l.initial.found l.link l.found

abbrev pub decreases-loop-link : goal.decreases-loop-link
decreases-loop-link l = l.link
