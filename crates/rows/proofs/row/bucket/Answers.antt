-- `bucket` meets its contract: the product fits 64 bits. Assumes nothing.
use native.Mathlib.Omega.{arith}
use mathlib.Core.Path.{refl}
use Rattle.rows.specs.Rows.{bucket_of}
use Rattle.rows.proofs.row.bucket.Goals as goal

pub returns : goal.returns
unfolding bucket_of
returns c = (rw (c.from.ensures, c.from-2.ensures) refl, omega arith)
