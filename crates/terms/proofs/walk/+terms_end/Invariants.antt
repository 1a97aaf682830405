-- The measure of `terms_end`.
use Rattle.std.proofs.Common.{length}
use Rattle.terms.proofs.walk.+terms_end.Given as goal

abbrev pub decreases-terms_end : goal.decreases-terms_end
decreases-terms_end l = length l.run.now
