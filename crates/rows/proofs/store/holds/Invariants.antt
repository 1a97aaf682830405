-- `holds` meets its contract: no row that the walk along the bucket has passed has the key. The measure is the link, which falls to an earlier row.
-- Assumes nothing.
use Rattle.rows.proofs.Finding.{Looked}
use Rattle.rows.proofs.store.holds.Given as goal

abbrev pub invariant-loop-link : goal.invariant-loop-link
invariant-loop-link l = Looked l.table l.n l.slot l.mask l.link

abbrev pub decreases-loop-link : goal.decreases-loop-link
decreases-loop-link l = l.link
