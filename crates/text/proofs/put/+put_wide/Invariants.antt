-- The measure of `put_wide`.
use Rattle.text.proofs.put.+put_wide.Given as goal

abbrev pub decreases-put_wide : goal.decreases-put_wide
decreases-put_wide l = l.n
