-- `at_head` meets its contract. The invariant: what the shapes before the link give is there, and the notes are of the head. The measure
-- is how many shapes may be left. Assumes nothing.
use native.Mathlib.Omega.{arith}
use mathlib.Core.Path.{sym, ◌∙◌}
use Rattle.rows.proofs.AddedRows.{reached_err}
use Rattle.ends.proofs.HeadShapes.{notes_there, clause_asked, start_in_words, along_begins, along_there, along_falls, along_behind, along_shape, along_full, along_on, along_ends}
use Rattle.ends.proofs.heads.at_head.Goals as goal

pub bounds-program-start : goal.bounds-program-start
bounds-program-start c = let a = c.requires.0 in let h = start_in_words a (c.head_of-head.ensures.0 (clause_asked a)) in h.0

pub bounds-program-from : goal.bounds-program-from
bounds-program-from c = let a = c.requires.0 in let h = start_in_words a (c.head_of-head.ensures.0 (clause_asked a)) in omega (arith, h.1, c.from.ensures, a.head.situation.setting.directory.size)

pub loop-link-init : goal.loop-link-init
loop-link-init c = let head = c.head_of-head.ensures in (
  λ a. along_begins a _ _ _ _ _ _ c.requires.1 (head.0 (clause_asked a)) c.rows_from-from.ensures (rw c.from.ensures at c.from-link.ensures),
  notes_there head.1 head.2 c.requires.4,
)

pub of_shape-requires : goal.of_shape-requires
of_shape-requires c = let inv = c.loop-link.invariant in
    let more = c.loop-link-test.true in
    let a = c.requires.0 in
    let v = inv.0 a in
    (along_shape a _ _ _ _ _ _ v more c.requires.2, v.grew.writable, along_behind a _ _ _ _ _ _ v more c.requires.2, c.loop-link.auto.solved ∙ c.requires.3, inv.1)

pub returns-in_err-rows-clause-stepped : goal.returns-in_err-rows-clause-stepped
returns-in_err-rows-clause-stepped c = λ a.
    rw (reached_err _ _ c.from_residual.ensures.0)
    (along_full a _ _ _ _ _ _ (c.loop-link.invariant.0 a) c.loop-link-test.true c.requires.2 (rw c.in_err-rows.was at c.of_shape.ensures.stepped) (omega arith))

pub returns-in_err-rows-clause-notes : goal.returns-in_err-rows-clause-notes
returns-in_err-rows-clause-notes c = let head = c.head_of-head.ensures in
    notes_there (sym head.1) (sym head.2) c.of_shape.ensures.notes

pub overflow_add-s : goal.overflow_add-s
overflow_add-s c = let a = c.requires.0 in (along_there a _ _ _ _ _ _ (c.loop-link.invariant.0 a) c.loop-link-test.true).0

pub offset_bounds-program-s : goal.offset_bounds-program-s
offset_bounds-program-s c = let a = c.requires.0 in (along_there a _ _ _ _ _ _ (c.loop-link.invariant.0 a) c.loop-link-test.true).1

pub bounds-program-s : goal.bounds-program-s
bounds-program-s c = let a = c.requires.0 in (along_there a _ _ _ _ _ _ (c.loop-link.invariant.0 a) c.loop-link-test.true).2

pub loop-link-smaller : goal.loop-link-smaller
loop-link-smaller c = let a = c.requires.0 in along_falls a _ _ _ _ _ _ (c.loop-link.invariant.0 a) c.loop-link-test.true c.from-link-in-loop-link.ensures

pub loop-link-preserved : goal.loop-link-preserved
loop-link-preserved c = let inv = c.loop-link.invariant in (
  λ a. along_on a _ _ _ _ _ _ (inv.0 a) c.loop-link-test.true c.requires.2 (rw c.in_ok-rows.was at c.of_shape.ensures.stepped) c.from-link-in-loop-link.ensures (rw c.in_ok-rows.was at c.of_shape.ensures.within),
  c.of_shape.ensures.notes,
)

pub returns : goal.returns
returns c = let head = c.head_of-head.ensures in
    let inv = c.loop-link.invariant in record {
      stepped = λ a. along_ends a _ _ _ _ _ _ (inv.0 a) c.loop-link-test.false;
      notes = notes_there (sym head.1) (sym head.2) inv.1;
      within = (inv.0 c.requires.0).grew.writable.within;
    }
