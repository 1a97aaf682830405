-- `number` meets its contract: the atom's cells are renumbered behind the shapes and sought there. Assumes nothing.
use native.Mathlib.Omega.{arith}
use mathlib.Core.Path.{refl, ◌∙◌}
use Rattle.shaping.proofs.ShapeNumber.{run_length, run_all_cells, variables_few, in_table, sought, old_answer, slot_in, new_answer}
use Rattle.shaping.proofs.shapes.number.Goals as goal

pub numbers-vars-requires : goal.numbers-vars-requires
numbers-vars-requires c = (run_all_cells _ _ _ _ _ c.requires, (let e = run_length _ _ _ _ _ c.requires in omega (arith, c.requires.stands.short)), refl)

pub renumber-requires : goal.renumber-requires
renumber-requires c = let a = c.requires in (in_table _ _ _ _ _ a _ _ c.numbers-vars.ensures, omega (arith, run_length _ _ _ _ _ a, a.room, a.shaped.size, c.from-total.ensures))

pub find-requires : goal.find-requires
find-requires c = let r = rw c.from-total.ensures at c.renumber.ensures in rw (c.from-q.ensures, c.from-total.ensures) (sought _ _ _ _ _ c.requires _ _ c.numbers-vars.ensures _ r)

pub keep-requires : goal.keep-requires
keep-requires c = let a = c.requires in let r = rw c.from-total.ensures at c.renumber.ensures in let n = c.numbers-vars.ensures in
    let f = rw c.in-Err.is at ((rw (c.from-q.ensures, c.from-total.ensures) at c.find.ensures) (sought _ _ _ _ _ a _ _ n _ r)) in
    (c.renumber.auto.dir ∙ a.shaped.size, slot_in _ _ _ _ _ a _ _ n _ r _ f, a.more, variables_few _ _ _ _ _ a _ _ n, rw c.from-total.ensures a.room)

pub returns-in-Ok : goal.returns-in-Ok
returns-in-Ok c = λ a. let r = rw c.from-total.ensures at c.renumber.ensures in let n = c.numbers-vars.ensures in
    let f = rw c.in-Ok.is at ((rw (c.from-q.ensures, c.from-total.ensures) at c.find.ensures) (sought _ _ _ _ _ a _ _ n _ r)) in
    old_answer _ _ _ _ _ a _ _ n _ r _ f

pub returns-in-Err : goal.returns-in-Err
returns-in-Err c = λ a. let r = rw c.from-total.ensures at c.renumber.ensures in let n = c.numbers-vars.ensures in
    let f = rw c.in-Err.is at ((rw (c.from-q.ensures, c.from-total.ensures) at c.find.ensures) (sought _ _ _ _ _ a _ _ n _ r)) in
    rw (c.keep.ensures, c.from-total.ensures) (new_answer _ _ _ _ _ a _ _ n _ r _ f)
