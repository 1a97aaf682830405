-- `union_of` meets its contract: the first cell's variable adds its set. The measure is the run's length.
-- Assumes nothing.
use native.Mathlib.Omega.{arith}
use lib.ListN.{length}
use Rattle.terms.proofs.Walks.{union_variable}
use Prim.Native.Nat.{◌<◌}
use Rattle.terms.proofs.walk.+union_of.Goals as goal

pub returns : goal.returns
returns t c = let R = c.args.run.now in
    let h : 0 < length R = omega (arith, c.if-run-eq0.false) in
    rw c.from.ensures (union_variable R c.args.base
    c.args.sets.now c.union_of-later.result h
    c.if-cell-lt-FIRST_VARIABLE.false c.union_of-later.ensures)
