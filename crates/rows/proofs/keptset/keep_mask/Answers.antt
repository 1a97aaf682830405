-- `keep_mask` meets its contract: the bit is put in, and no other is touched. Assumes nothing.
use Prim.Native.Nat.{◌*◌}
use Rattle.rows.proofs.KeptWords.{put_in_part, mask_kept}
use Rattle.rows.proofs.keptset.keep_mask.Goals as goal

pub returns : goal.returns
returns c = let first = c.args.size * c.args.k in
    rw (put_in_part c.args.kept.now first c.args.q c.put.new.set c.requires c.put.ensures) (mask_kept c.args.kept.now first c.args.q c.requires c.args.size)
