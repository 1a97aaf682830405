-- `present` meets its contract: what the first cell adds to what the cells behind it have. The measure is the run's length.
-- Assumes nothing.
use native.Mathlib.Omega.{arith}
use lib.ListN.{length}
use Rattle.terms.proofs.Walks.{present_variable}
use Prim.Native.Nat.{◌<◌}
use Rattle.terms.proofs.walk.+present.Goals as goal

pub returns : goal.returns
returns t c = let R = c.args.run.now in
    let h : 0 < length R = omega (arith, c.if-run-eq0.false) in
    rw (c.only.ensures, c.from.ensures) (present_variable R c.present-later.result h
    c.if-cell-lt-FIRST_VARIABLE.false c.present-later.ensures)
