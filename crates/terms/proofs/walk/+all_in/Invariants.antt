-- The measure of `all_in`.
use Rattle.std.proofs.Common.{length}
use Rattle.terms.proofs.walk.+all_in.Given as goal

abbrev pub decreases-all_in : goal.decreases-all_in
decreases-all_in l = length l.run.now
