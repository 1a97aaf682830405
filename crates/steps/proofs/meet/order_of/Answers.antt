-- `order_of` meets its contract. The invariant: the variables of the cells passed are in the list by first appearance. Assumes nothing.
use native.Mathlib.Omega.{arith}
use borrow.Author.Tests.{not-true, not-false}
use mathlib.Core.Path.{◌≡◌}
use Prim.Native.Nat.{ℕ}
use mathlib.Core.List.{List, []}
use lib.ListN.{length, get_or, take}
use lib.Seq.{take_all}
use Rattle.directory.specs.Numbers.{met_cells}
use Rattle.directory.proofs.Numbering.{met_cells_next}
use Rattle.steps.proofs.Appearance.{Ordered, ordered_few, ordered_below, function_ordered, old_ordered, room_left, new_ordered, run_cells, run_in_order}
use Rattle.steps.proofs.meet.order_of.Goals as goal
use Rattle.steps.proofs.meet.order_of.Goals.{then-cell-ge-FIRST_VARIABLE+then-not-has, then-cell-ge-FIRST_VARIABLE+else-not-has, else-cell-ge-FIRST_VARIABLE}

pub has-requires : goal.has-requires
has-requires c = let i = c.loop-cell.cell-index in
    let less = c.loop-cell-test.true in
    let small = run_cells _ c.requires i less in
    omega (arith, small, c.from-v.ensures, c.if-cell-ge-FIRST_VARIABLE.true)

pub only-met-requires : goal.only-met-requires
only-met-requires c = let i = c.loop-cell.cell-index in
    let less = c.loop-cell-test.true in
    let small = run_cells _ c.requires i less in
    omega (arith, small, c.from-v.ensures, c.if-cell-ge-FIRST_VARIABLE.true)

pub overflow_cast-variables : goal.overflow_cast-variables
overflow_cast-variables c = let i = c.loop-cell.cell-index in
    let less = c.loop-cell-test.true in
    let small = run_cells _ c.requires i less in
    omega (arith, small, c.from-v.ensures, c.if-cell-ge-FIRST_VARIABLE.true)

pub bounds-variables-count : goal.bounds-variables-count
bounds-variables-count c = let R = c.args.atom.now in
    let i = c.loop-cell.cell-index in
    let less = c.loop-cell-test.true in
    let small = run_cells R c.requires i less in
    room_left c.loop-cell.invariant (get_or R i 0) c.if-cell-ge-FIRST_VARIABLE.true small (λ h. rw (not-true c.has.result c.if-not-has.true-raw) at (c.has.ensures.1 (rw c.from-v.ensures h)))

pub loop-cell-preserved : goal.loop-cell-preserved
loop-cell-preserved c = let R = c.args.atom.now in
    let i = c.loop-cell.cell-index in
    let inv = c.loop-cell.invariant in
    let less = c.loop-cell-test.true in
    let small = run_cells R c.requires i less in
    elim c.if-cell-ge-FIRST_VARIABLE.branch [
      | then-cell-ge-FIRST_VARIABLE+then-not-has w ↦
          rw (w.variables-is, w.met-is, w.count-is, w.only-met.ensures, w.from-v.ensures, met_cells_next R i less)
          (new_ordered inv (get_or R i 0) w.if-cell-ge-FIRST_VARIABLE.true small (λ h. rw (not-true w.has.result w.if-not-has.true-raw) at (w.has.ensures.1 (rw w.from-v.ensures h))))
      | then-cell-ge-FIRST_VARIABLE+else-not-has w ↦
          rw (w.variables-is, w.met-is, w.count-is, met_cells_next R i less)
          (old_ordered inv (get_or R i 0) w.if-cell-ge-FIRST_VARIABLE.true small (rw w.from-v.ensures at (w.has.ensures.0 (rw (not-false w.has.result w.if-not-has.false-raw) tt))))
      | else-cell-ge-FIRST_VARIABLE w ↦
          rw (w.variables-is, w.met-is, w.count-is, met_cells_next R i less) (function_ordered inv (get_or R i 0) w.if-cell-ge-FIRST_VARIABLE.false)
    ]

all_ordered : (R : List ℕ) (i : ℕ) (variables : List ℕ) (met count : ℕ) → i ≡ length R → Ordered (met_cells [] (take i R)) variables met count
    → Ordered (met_cells [] R) variables met count
all_ordered R i variables met count e o = rw (e, take_all (length R) R (omega arith)) at o

pub invariant_of-result : goal.invariant_of-result
invariant_of-result c = let all = all_ordered c.args.atom.now c.loop-cell.cell-index _ _ _ (omega arith) c.loop-cell.invariant in
    record { few = ordered_few all; below = ordered_below all }

pub returns : goal.returns
returns c = let all = all_ordered c.args.atom.now c.loop-cell.cell-index _ _ _ (omega arith) c.loop-cell.invariant in
    (ordered_few all, run_in_order c.args.atom.now _ _ _ all)
