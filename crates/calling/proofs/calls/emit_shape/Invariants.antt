-- `emit_shape` meets its contract. The invariant: what the call rows from the link on give is there. The measure is the link. Assumes nothing.
use Rattle.calling.specs.Calls.{EmitAsked}
use Rattle.calling.proofs.CallWalks.{Walking}
use Rattle.calling.proofs.calls.emit_shape.Given as goal

abbrev pub invariant-loop-link : goal.invariant-loop-link
invariant-loop-link l = (a : EmitAsked l.dir l.order.variables l.initial.table l.calls.sets.now l.order.count l.calls.newest l.calls.here l.calls.there l.at.since l.at.rows l.j)
    → Walking a l.at.number l.at.room l.n l.initial.buckets l.link l.rows l.table l.buckets

abbrev pub decreases-loop-link : goal.decreases-loop-link
decreases-loop-link l = l.link
