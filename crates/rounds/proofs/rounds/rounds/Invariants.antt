-- `rounds` meets its contract: after each turn the rows are those of a round. The measure is the room that is left: a turn adds a row. Assumes nothing.
use Prim.Native.Nat.{◌-◌}
use mathlib.Core.Path.{◌≡◌}
use Rattle.program.specs.Program.{Program}
use Rattle.steps.specs.Situation.{Setting}
use Rattle.steps.specs.Unifiers.{Room}
use Rattle.ends.specs.Ends.{Scratch}
use Rattle.ends.specs.Keeping.{KeepsMarks}
use Rattle.joining.specs.KeptAnswers.{KeepsAnswers}
use Rattle.rounds.proofs.RoundByRound.{Rounding}
use Rattle.rounds.proofs.rounds.rounds.Given as goal

abbrev pub invariant-loop-next : goal.invariant-loop-next
invariant-loop-next l = Scratch l.work.answers l.work.found
    × ((p : Program) → Setting l.program.words.now l.program.dir.now p → Rounding p l.table l.work.buckets l.heads l.at.room l.at.since l.at.rows l.at.number)
    × KeepsMarks l.program.words.now l.program.dir.now l.table l.work.kept l.at.rows l.at.rows × KeepsAnswers l.program.words.now l.program.dir.now l.table l.work.answered l.at.rows
    × Room l.unifiers × (l.at.room ≡ l.room)

abbrev pub decreases-loop-next : goal.decreases-loop-next
decreases-loop-next l = l.room - l.at.rows
