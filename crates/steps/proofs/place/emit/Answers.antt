-- `emit` meets its contract: a cont row is added and then a call row, both of marks that the rules reach, with their masks kept to the list and
-- taken to the shape's numbering. Assumes nothing.
use native.Mathlib.Omega.{arith}
use mathlib.Core.Path.{refl}
use Rattle.rows.proofs.AddedRows.{reached_err}
use Rattle.steps.proofs.Emitting.{added_writable, place_few, place_shape, cont_stepped, emitted_full, emitted_both}
use Rattle.steps.proofs.place.emit.Goals as goal

pub overflow_add-j : goal.overflow_add-j
overflow_add-j c = omega (arith, (place_few c.requires.0).0)

pub offset_bounds-dir-j : goal.offset_bounds-dir-j
offset_bounds-dir-j c = omega (arith, (place_few c.requires.0).0)

pub bounds-dir-j : goal.bounds-dir-j
bounds-dir-j c = let few = place_few c.requires.0 in omega (arith, few.0, few.1)

pub overflow_add-j-2 : goal.overflow_add-j-2
overflow_add-j-2 c = omega (arith, (place_few c.requires.0).0)

pub narrow-requires : goal.narrow-requires
narrow-requires c = omega (arith, (place_few c.requires.0).0)

pub add-requires : goal.add-requires
add-requires c = let (w, writable, _) = c.requires in
    record { store = writable.store; n_le_room = (writable.within, writable.room_most, writable.room_there, omega (arith, c.narrow.ensures, (place_few w).0)) }

pub returns-in_err-next-clause-stepped : goal.returns-in_err-next-clause-stepped
returns-in_err-next-clause-stepped c = λ w reached.
    let writable = c.requires.1 in
    rw (reached_err _ _ c.from_residual.ensures.0)
    (emitted_full w _ _ _ _ _ _ _ _ c.kept-listed.ensures reached writable _ _ _
    (cont_stepped w _ _ _ _ _ _ _ _ c.kept-listed.ensures reached writable _ _ _ _ c.narrow.ensures (rw c.in_err-next.was at c.add.ensures.added) c.add.auto.table)
    (omega arith))

pub bounds-dir-j-2 : goal.bounds-dir-j-2
bounds-dir-j-2 c = let few = place_few c.requires.0 in omega (arith, few.0, few.1)

pub add-requires-2 : goal.add-requires-2
add-requires-2 c = let (w, writable, _) = c.requires in
    let next = added_writable _ _ _ _ _ _ _ _ _ _ writable (rw c.in_ok-next.was at c.add.ensures.added) c.add.auto.table (rw c.in_ok-next.was at c.add.ensures.within) in
    record { store = next.store; n_le_room = (next.within, next.room_most, next.room_there, place_shape w) }

pub returns-clause-stepped : goal.returns-clause-stepped
returns-clause-stepped c = λ w reached.
    let writable = c.requires.1 in
    emitted_both w _ _ _ _ _ _ _ _ c.kept-listed.ensures reached writable _ c.renumber.ensures _ _ _ _ _ _ _
    (cont_stepped w _ _ _ _ _ _ _ _ c.kept-listed.ensures reached writable _ _ _ _ c.narrow.ensures (rw c.in_ok-next.was at c.add.ensures.added) c.add.auto.table)
    (rw c.in_ok-next.was at c.add.ensures.within) refl c.add-2.ensures.added c.add-2.auto.table
