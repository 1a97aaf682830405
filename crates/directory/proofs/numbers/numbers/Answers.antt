-- `numbers` meets its contract. The invariant: the variables of the cells passed are numbered. Assumes nothing.
use native.Mathlib.Omega.{arith}
use mathlib.Core.List.{[]}
use lib.ListN.{get_or, take}
use Rattle.directory.specs.Numbers.{met_cells}
use Rattle.directory.proofs.Numbering.{met_cells_next, function_numbered, old_numbered, new_numbered}
use Rattle.directory.proofs.numbers.numbers.Goals as goal
use Rattle.directory.proofs.numbers.numbers.Goals.{then-cell-ge-FIRST_VARIABLE+then-table-v-eq0, then-cell-ge-FIRST_VARIABLE+else-table-v-eq0, else-cell-ge-FIRST_VARIABLE}

pub loop-cell-preserved : goal.loop-cell-preserved
loop-cell-preserved c =
    let R = c.args.run.now in
    let i = c.loop-cell.cell-index in
    let T = c.loop-cell.table in
    let N = c.loop-cell.n in
    let inv = c.loop-cell.invariant in
    let less = c.loop-cell-test.true in
    elim c.if-cell-ge-FIRST_VARIABLE.branch [
      | then-cell-ge-FIRST_VARIABLE+then-table-v-eq0 w ↦ (
        rw w.n-is (omega (arith, inv.0)),
        rw (w.table-is, w.n-is, w.narrow.ensures, w.from-v.ensures, met_cells_next R i less)
            (new_numbered (met_cells [] (take i R)) T N (get_or R i 0) inv.1 w.if-cell-ge-FIRST_VARIABLE.true (c.requires.0 i less)
            (rw w.from-v.ensures at w.if-table-v-eq0.true)),
      )
      | then-cell-ge-FIRST_VARIABLE+else-table-v-eq0 w ↦ (
        rw w.n-is (omega (arith, inv.0)),
        rw (w.table-is, w.n-is, met_cells_next R i less)
            (old_numbered (met_cells [] (take i R)) T N (get_or R i 0) inv.1 w.if-cell-ge-FIRST_VARIABLE.true (c.requires.0 i less)
            (rw w.from-v.ensures at w.if-table-v-eq0.false)),
      )
      | else-cell-ge-FIRST_VARIABLE w ↦ (
        rw w.n-is (omega (arith, inv.0)),
        rw (w.table-is, w.n-is, met_cells_next R i less)
            (function_numbered (met_cells [] (take i R)) T N (get_or R i 0) inv.1 w.if-cell-ge-FIRST_VARIABLE.false),
      )
    ]
