-- A name ends within the names.
use Rattle.std.proofs.Common.{arith}
use Rattle.text.proofs.Cuts.{part_within}
use Rattle.vectors.proofs.try_samples.Goals as goal

pub slice_bounds-try_sample-end : goal.slice_bounds-try_sample-end
slice_bounds-try_sample-end g c = part_within 10 c.args.names.now c.loop-at.at c.find-end.result (omega arith) c.find-end.ensures
