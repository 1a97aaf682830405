-- `unpack` meets its contract: the rows passed are entries. Assumes nothing.
use native.Mathlib.Omega.{arith}
use Rattle.analysis.proofs.Unpacking.{row_stands, row_passed, passed_all}
use Rattle.analysis.proofs.unpack.unpack.Goals as goal

pub unpack_row-requires : goal.unpack_row-requires
unpack_row-requires c = (row_stands _ _ _ _ c.requires c.loop-r.r c.loop-r-test.true _ (c.loop-r.invariant c.requires), omega (arith, c.requires.fits))

pub loop-r-preserved : goal.loop-r-preserved
loop-r-preserved c = λ w. row_passed _ _ _ _ w c.loop-r.r c.loop-r-test.true _ (c.loop-r.invariant w) _ (c.unpack_row.ensures (row_stands _ _ _ _ w c.loop-r.r c.loop-r-test.true _ (c.loop-r.invariant w)))

pub returns : goal.returns
returns c = λ w. passed_all _ _ _ _ w _ _ (omega arith) c.loop-r-test.false (c.loop-r.invariant w)
