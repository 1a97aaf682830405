-- `keep_masks` meets its contract: the words passed have what is found besides. Assumes nothing.
use Rattle.std.proofs.Common.{arith, ◌≡◌}
use Rattle.std.proofs.lemmas.List.{length-take}
use Rattle.rows.proofs.KeptWords.{beside_all}
use Rattle.rows.proofs.keptset.keep_masks.Goals as goal

pub returns : goal.returns
returns c = let e : c.loop-i.i ≡ c.args.size = omega (arith, length-take c.args.size c.args.found.now) in
    rw e at (beside_all _ _ c.loop-i.i _ _ c.loop-i.invariant)
