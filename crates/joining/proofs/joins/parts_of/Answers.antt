-- `parts_of` meets its contract: with no cont row of the place, or no answer to its atom, the rules come past it with no new row. Assumes nothing.
use mathlib.Core.Path.{refl, sym, ◌∙◌}
use Rattle.table.specs.Keys.{first_cont}
use Rattle.joining.proofs.Joining.{fewer_among}
use Rattle.joining.proofs.Offsets.{offset_fits, offset_bytes_fit}
use Rattle.joining.proofs.PlaceAnswers.{no_conts}
use Rattle.joining.proofs.PlaceSteps.{slot_there, no_answer}
use Rattle.joining.proofs.joins.parts_of.Goals as goal

pub overflow_add-j : goal.overflow_add-j
overflow_add-j c = let asked = c.requires.0 in offset_fits first_cont (slot_there asked.situation asked.body).1 tt

pub offset_bounds-standing-j : goal.offset_bounds-standing-j
offset_bounds-standing-j c = let asked = c.requires.0 in offset_bytes_fit first_cont (slot_there asked.situation asked.body).1 tt

pub bounds-standing-j : goal.bounds-standing-j
bounds-standing-j c = let asked = c.requires.0 in (slot_there asked.situation asked.body).0

pub returns-then-newest-eq0-clause-none : goal.returns-then-newest-eq0-clause-none
returns-then-newest-eq0-clause-none c = λ w b. no_conts w b (sym c.from-newest.ensures ∙ c.if-newest-eq0.true)

pub returns-then-counts-eq0-clause-none : goal.returns-then-counts-eq0-clause-none
returns-then-counts-eq0-clause-none c = let (_, lists, _) = c.list_answers-counts.ensures in
    λ w b. no_answer w b (fewer_among _ _ _ lists.there.few) (rw c.from-newest.ensures at (lists.answered w b)) (rw c.if-counts-eq0.true refl)

pub returns-clause-some : goal.returns-clause-some
returns-clause-some c = (c.from-newest.ensures, c.list_answers-counts.ensures.1)
