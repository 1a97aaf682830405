-- `solve_calls` meets its contract. The invariant: the call rows behind the link have their solution rows, and so have the masks in the set; the chain is
-- that of any situation that the contract speaks of. The measure is the link. Assumes nothing.
use Prim.Native.Nat.{ℕ, ◌≤◌}
use mathlib.Core.Path.{◌≡◌}
use lib.ListN.{length}
use Rattle.rows.specs.MaskSet.{set_words}
use Rattle.solving.specs.Solving.{CallsAsked}
use Rattle.solving.proofs.SolveCalls.{Going}
use Rattle.solving.proofs.solve.solve_calls.Given as goal

abbrev pub invariant-loop-link : goal.invariant-loop-link
invariant-loop-link l = ((since : ℕ) × (old : ℕ) × CallsAsked l.initial.table l.initial.solved since old l.newest l.slot l.mask l.n × (old ≤ l.n))
    × (length l.solved ≡ set_words)
    × ((since old : ℕ) → old ≤ l.n → (a : CallsAsked l.initial.table l.initial.solved since old l.newest l.slot l.mask l.n) → Going a l.at.number l.at.room l.initial.buckets l.link l.rows l.table l.buckets l.solved)

abbrev pub decreases-loop-link : goal.decreases-loop-link
decreases-loop-link l = l.link
