-- No more samples agree than are tried, and each takes a byte of the names.
use Rattle.std.proofs.Common.{◌+◌, ◌-◌, ◌≤◌, length}
use Rattle.vectors.proofs.try_samples.Given as goal

abbrev pub invariant-loop-at : goal.invariant-loop-at
invariant-loop-at g l = (l.at ≤ length l.names + 1) × (l.tried ≤ l.at) × (l.agreed ≤ l.tried)

abbrev pub decreases-loop-at : goal.decreases-loop-at
decreases-loop-at g l = length l.names + 1 - l.at
