-- A turn of the rounds: the rows are linked, and a round looks at them. It exceeds the room, or adds no row and is the last, or has the rows of the next round.
use Prim.Native.Nat.{ℕ, ◌+◌, ◌-◌, ◌≤◌, ◌<◌}
use native.Mathlib.Omega.{arith}
use mathlib.Core.Path.{◌≡◌}
use mathlib.Core.Logic.{inl, inr}
use mathlib.Core.List.{List}
use lib.ListN.{length}
use Rattle.marks.specs.Modes.{modes}
use Rattle.program.specs.Program.{Program}
use Rattle.rows.specs.Rows.{keys_of}
use Rattle.rows.specs.Linked.{Linked}
use Rattle.table.specs.NewRows.{NewGives}
use Rattle.table.specs.RoundKeys.{Keyed}
use Rattle.steps.specs.Steps.{Given, RowsIn, Writable, Grew, Stepped}
use Rattle.steps.specs.Situation.{Setting, Situation}
use Rattle.joining.specs.KeptAnswers.{KeepsAnswers}
use Rattle.ends.specs.Keeping.{KeepsMarks}
use Rattle.rounds.specs.Rounds.{Finished}
use Rattle.joining.proofs.KeptPlaces.{answers_later}
use Rattle.ends.proofs.KeptMarks.{marks_later}
use Rattle.steps.proofs.Stepping.{stepped_within, stepped_past}
use Rattle.rounds.proofs.RoundByRound.{Rounding, strictly, linked_situation, linked_writable, linked_keeps, linked_keeps_answers, rounds_overfull, rounds_stop, rounds_next}

-- the rows of a round, linked
pub record Turn (words dir table buckets heads table' heads' : List ℕ) (room since rows number : ℕ) : Type 0 where
  pub each : (p : Program) → Setting words dir p → Rounding p table buckets heads room since rows number
  pub linked : Linked table since rows table' heads'
  pub same_length : length table' ≡ length table
  pub same_heads : length heads' ≡ length heads

pub turn : {words dir table buckets heads table' heads' : List ℕ} {room since rows number : ℕ}
    → ((p : Program) → Setting words dir p → Rounding p table buckets heads room since rows number)
    → Linked table since rows table' heads' → length table' ≡ length table → length heads' ≡ length heads → Turn words dir table buckets heads table' heads' room since rows number
turn each linked same_length same_heads = record { each = each; linked = linked; same_length = same_length; same_heads = same_heads }

module _ {words dir table buckets heads table' heads' : List ℕ} {room since rows number : ℕ} (t : Turn words dir table buckets heads table' heads' room since rows number) where
  module _ (p : Program) (st : Setting words dir p) where
    abbrev pub turn_situation : Situation words dir table' heads' since rows
    turn_situation = linked_situation words dir p st table buckets heads room since rows number (t.each p st) table' heads' t.linked t.same_length t.same_heads

    pub turn_writable : Writable table' buckets rows room
    turn_writable = linked_writable words dir p st table buckets heads room since rows number (t.each p st) table' heads' t.linked t.same_length t.same_heads

  pub turn_keeps : (kept : List ℕ) → KeepsMarks words dir table kept rows rows → KeepsMarks words dir table' kept rows rows
  turn_keeps kept keeps p st = linked_keeps st table table' heads' kept t.linked (keeps p st)

  pub turn_keeps_answers : (answered : List ℕ) → KeepsAnswers words dir table answered rows → KeepsAnswers words dir table' answered rows
  turn_keeps_answers answered keeps p st = linked_keeps_answers p table table' heads' answered t.linked (keeps p st)

  -- the round that looks at them
  module _ {next : ℕ} {table'' buckets'' : List ℕ}
      (step : (w : Situation words dir table' heads' since rows)
      → Stepped (Given w.p (keys_of table' rows)) number room rows table' buckets
      (Keyed w.p (NewGives modes w.p (RowsIn w.p (keys_of table' since)) (RowsIn w.p (keys_of table' rows)))) next table'' buckets'') where
    -- past the room
    pub turn_over : room < next → (p : Program) → Setting words dir p → Finished p room next table''
    turn_over past p st =
        let o = stepped_past (Given p (keys_of table' rows)) number room rows next table' buckets table'' buckets'' _ (step (turn_situation p st)) past in
        inr (o.0.over, rounds_overfull words dir p st table buckets heads room since rows number (t.each p st) table' heads' t.linked t.same_length t.same_heads next o.0)

    module _ (within : next ≤ room) where
      turn_grew : (p : Program) → (st : Setting words dir p)
          → Grew (Given p (keys_of table' rows)) number room rows table' buckets (Keyed p (NewGives modes p (RowsIn p (keys_of table' since)) (RowsIn p (keys_of table' rows)))) next table'' buckets''
      turn_grew p st = stepped_within (Given p (keys_of table' rows)) number room rows next table' buckets table'' buckets'' _ (step (turn_situation p st)) within

      -- no row more: the last round
      pub turn_last : next ≡ rows → (p : Program) → Setting words dir p → Finished p room rows table''
      turn_last e p st =
          inl (
            (t.each p st).writable.within,
            rounds_stop words dir p st table buckets heads room since rows number (t.each p st) table' heads' t.linked t.same_length t.same_heads next table'' buckets'' (turn_grew p st) e,
          )

      -- a row more: the next round's rows
      module _ (differ : next ≡ rows → ⊥) where
        pub turn_less : (p : Program) → Setting words dir p → room - next < room - rows
        turn_less p st = let l : rows < next = strictly rows next (turn_grew p st).more differ in omega arith

        pub turn_again : (kept answered : List ℕ) → KeepsMarks words dir table'' kept rows next → KeepsAnswers words dir table'' answered rows
            → ((p : Program) → Setting words dir p → Rounding p table'' buckets'' heads' room rows next (number + 1))
            × KeepsMarks words dir table'' kept next next × KeepsAnswers words dir table'' answered next
        turn_again kept answered keeps answers = (
          λ p st.
              rounds_next words dir p st table buckets heads room since rows number (t.each p st) table' heads' t.linked t.same_length t.same_heads next table'' buckets'' (turn_grew p st) differ,
          λ p st. marks_later st table'' kept rows next (turn_grew p st).more (keeps p st),
          λ p st. answers_later p table'' answered rows next (turn_grew p st).more (answers p st),
        )
