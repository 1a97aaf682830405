-- `active` meets its contract: the clauses that the rows passed concern are in the set. Assumes nothing.
use native.Mathlib.Omega.{arith}
use Rattle.concerns.proofs.ActiveClauses.{new_stands, row_there}
use Rattle.concerns.proofs.ClauseIndex.{active_on}
use Rattle.concerns.proofs.active.active.Goals as goal

pub concerned-set-requires : goal.concerned-set-requires
concerned-set-requires c = let w = c.requires.situation in
    (row_there w _ c.loop-r-test.true, omega (arith, c.loop-r-test.true, w.chains.fits), c.requires.heads_size, c.requires.bodies_size)

pub loop-r-preserved : goal.loop-r-preserved
loop-r-preserved c = λ w index. active_on w _ _ _ (λ z e. c.concerned-set.ensures z (rw e index)) (c.loop-r.invariant w index)

pub returns : goal.returns
returns c = λ w index k row new h.
    let (r, f, l, e, m) = new_stands w.p _ _ _ _ w.chains row new in
    c.loop-r.invariant w index k r row f (omega (arith, l, c.loop-r-test.false)) new.0.0 e m h
