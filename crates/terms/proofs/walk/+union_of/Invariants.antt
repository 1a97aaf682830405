-- The measure of `union_of`.
use Rattle.std.proofs.Common.{length}
use Rattle.terms.proofs.walk.+union_of.Given as goal

abbrev pub decreases-union_of : goal.decreases-union_of
decreases-union_of l = length l.run.now
