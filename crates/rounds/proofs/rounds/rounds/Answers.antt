-- `rounds` meets its contract: after each turn the rows are those of a round. The measure is the room that is left: a turn adds a row. Assumes nothing.
use native.Mathlib.Omega.{arith}
use mathlib.Core.Path.{refl}
use mathlib.Core.Logic.{inr}
use Rattle.rows.proofs.Adding.{empty_store}
use Rattle.rows.proofs.AddedRows.{reached_err}
use Rattle.steps.proofs.NotedUnifiers.{room_stays}
use Rattle.joining.proofs.KeptPlaces.{answers_none}
use Rattle.ends.proofs.KeptMarks.{marks_none}
use Rattle.rounds.proofs.RoundByRound.{no_room_exactly, round_zero_there}
use Rattle.rounds.proofs.RoundTurns.{turn, turn_situation, turn_writable, turn_keeps, turn_keeps_answers, turn_over, turn_last, turn_less, turn_again}
use Rattle.rounds.proofs.rounds.rounds.Goals as goal

pub add-requires : goal.add-requires
add-requires c = record { store = rw c.requires.no_buckets (empty_store c.args.table.now); n_le_room = (omega arith, c.requires.room_most, c.requires.room_there, omega arith) }

pub returns-in_err-rows-clause-finished : goal.returns-in_err-rows-clause-finished
returns-in_err-rows-clause-finished c = λ p st.
    rw (reached_err _ _ c.from_residual.ensures.0)
    (let added = rw c.in_err-rows.was at c.add.ensures.added in
    inr (refl, no_room_exactly _ _ p st _ _ c.args.heads.now _ _ _ _ _ st.directory.goal_ground_law added (omega arith)))

pub loop-next-init : goal.loop-next-init
loop-next-init c =
    let added = rw c.in_ok-rows.was at c.add.ensures.added in (
      c.requires.scratch,
      λ p st. round_zero_there _ _ p st _ _ _ _ _ _ _ _ st.directory.goal_ground_law added (rw c.in_ok-rows.was at c.add.ensures.within) c.requires.room_most (rw c.add.auto.table c.requires.room_there) c.requires.no_heads,
      λ p st. marks_none st _ _ _ c.requires.none_kept,
      λ p st. answers_none p _ _ _ c.requires.none_answered,
      c.requires.room_for_notes,
      refl,
    )

pub round-requires : goal.round-requires
round-requires c = let (scratch, each, marks, answers, notes, same) = c.loop-next.invariant in
    let t = turn each c.link.ensures c.link.auto.table c.link.auto.heads in (
      record {
        situation = turn_situation t c.requires.p c.requires.setting;
        heads_size = c.enter_heads.auto.set;
        bodies_size = c.enter_bodies.auto.set;
        indexed = record { heads_entered = c.enter_heads.ensures c.requires.p c.requires.setting; bodies_entered = c.enter_bodies.ensures c.requires.p c.requires.setting };
      },
      record {
        writable = turn_writable t c.requires.p c.requires.setting;
        behind = omega arith;
        scratch = scratch;
        marks = turn_keeps t _ marks;
        answers = turn_keeps_answers t _ answers;
      },
      notes,
    )

pub returns-in_err-next-clause-finished : goal.returns-in_err-next-clause-finished
returns-in_err-next-clause-finished c = let t = turn c.loop-next.invariant.1 c.link.ensures c.link.auto.table c.link.auto.heads in
    λ p st. rw (reached_err _ _ c.from_residual-in_err-next.ensures.0, ← c.loop-next.invariant.5) (turn_over t (rw c.in_err-next.was at c.round.ensures.stepped) (omega arith) p st)

pub returns-then-next-at : goal.returns-then-next-at
returns-then-next-at c = let t = turn c.loop-next.invariant.1 c.link.ensures c.link.auto.table c.link.auto.heads in record {
  finished = rw (← c.loop-next.invariant.5) (turn_last t (rw c.in_ok-next.was at c.round.ensures.stepped) (rw c.in_ok-next.was at c.round.ensures.works).writable.within c.if-next-at.true);
  within = rw (← c.loop-next.invariant.5) (c.loop-next.invariant.1 c.requires.p c.requires.setting).writable.within;
}

pub loop-next-smaller : goal.loop-next-smaller
loop-next-smaller c = let t = turn c.loop-next.invariant.1 c.link.ensures c.link.auto.table c.link.auto.heads in
    rw (← c.loop-next.invariant.5)
    (turn_less t (rw c.in_ok-next.was at c.round.ensures.stepped) (rw c.in_ok-next.was at c.round.ensures.works).writable.within c.if-next-at.false c.requires.p c.requires.setting)

pub loop-next-preserved : goal.loop-next-preserved
loop-next-preserved c = let t = turn c.loop-next.invariant.1 c.link.ensures c.link.auto.table c.link.auto.heads in
    let again = turn_again t (rw c.in_ok-next.was at c.round.ensures.stepped) (rw c.in_ok-next.was at c.round.ensures.works).writable.within c.if-next-at.false _ _ (rw c.in_ok-next.was at c.round.ensures.works).marks (rw c.in_ok-next.was at c.round.ensures.works).answers in (
      c.round.ensures.scratch,
      again.0,
      again.1,
      again.2,
      room_stays _ _ c.round.auto.unifiers c.loop-next.invariant.4,
      c.loop-next.invariant.5,
    )
