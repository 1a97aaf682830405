-- `emit_joined` meets its contract. The invariant: the rows of the answers passed are there, and nothing but what the rules give; what the set has is
-- of those. Assumes nothing.
use Prim.Native.Nat.{ℕ}
use mathlib.Core.Path.{◌≡◌}
use lib.ListN.{length, take}
use Rattle.rows.specs.MaskSet.{set_words, InSet}
use Rattle.joining.specs.Joined.{Had, JoinAsked}
use Rattle.joining.proofs.JoinSteps.{AnswersGrew}
use Rattle.joining.proofs.joins.emit_joined.Given as goal

abbrev pub invariant-loop-answer : goal.invariant-loop-answer
invariant-loop-answer l = (length l.seen ≡ set_words)
    × ((N : ℕ) → InSet l.seen N → Had l.initial.seen l.mask (take l.answer-index l.answers) N)
    × ((w : JoinAsked l.dir l.order.variables l.initial.table l.answers l.initial.seen l.order.count l.at.rows l.j l.mask l.n) → AnswersGrew w l.initial.buckets l.at.number l.at.room l.answer-index l.rows l.table l.buckets)
