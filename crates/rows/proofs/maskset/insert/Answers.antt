-- `insert` meets its contract: the bit was there, or it is put in. Assumes nothing.
use Rattle.rows.proofs.MaskSets.{inserted_new}
use lib.Dec.{T}
use native.Mathlib.Omega.{arith}
use Rattle.rows.proofs.maskset.insert.Goals as goal

pub returns : goal.returns
returns c = rw c.put.ensures (inserted_new c.args.set.now c.args.q (omega (arith, c.requires, c.ranges.q.fits)) (λ h. let t : T c.contains.result = c.contains.ensures.1 h in rw c.if-contains.false at t))
