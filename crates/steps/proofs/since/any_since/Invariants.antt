-- `any_since` meets its contract: none of the shapes passed has a row from `since` on. The measure is how many shapes may be left.
-- Assumes nothing.
use Prim.Native.Nat.{ℕ}
use mathlib.Core.List.{List}
use Rattle.program.specs.Program.{Program}
use Rattle.steps.specs.Situation.{Setting}
use Rattle.steps.proofs.ShapeLinks.{shapes_left, NoneSince}
use Rattle.steps.proofs.since.any_since.Given as goal

abbrev pub invariant-loop-link : goal.invariant-loop-link
invariant-loop-link l = (words : List ℕ) (p : Program) → Setting words l.dir p → NoneSince p l.heads l.predicate l.first l.since l.link

abbrev pub decreases-loop-link : goal.decreases-loop-link
decreases-loop-link l = shapes_left l.link
