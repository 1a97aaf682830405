-- The measure of `present`.
use Rattle.std.proofs.Common.{length}
use Rattle.terms.proofs.walk.+present.Given as goal

abbrev pub decreases-present : goal.decreases-present
decreases-present l = length l.run.now
