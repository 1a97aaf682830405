-- `emit_conts` meets its contract. The invariant: the rows that the cont rows behind the link make are there, and the set has marks of these alone.
-- The measure is the link, which falls. Assumes nothing.
use mathlib.Core.Path.{◌≡◌}
use lib.ListN.{length}
use Rattle.rows.specs.MaskSet.{set_words}
use Rattle.joining.specs.Joined.{ContsAsked}
use Rattle.joining.proofs.JoinSteps.{ContsWalk}
use Rattle.joining.proofs.joins.emit_conts.Given as goal

abbrev pub invariant-loop-link : goal.invariant-loop-link
invariant-loop-link l = (length l.seen ≡ set_words)
    × ((w : ContsAsked l.dir l.order.variables l.initial.table l.answers.fresh.now l.answers.all.now l.order.count l.at.rows l.newest l.at.since l.j) → ContsWalk w l.initial.buckets l.at.number l.at.room l.n l.link l.rows l.table l.buckets l.seen)

abbrev pub decreases-loop-link : goal.decreases-loop-link
decreases-loop-link l = l.link
