-- The loop's invariant: the line so far is within the room.
use Rattle.std.proofs.Common.{◌≤◌, ◌≡◌, length}
use Rattle.cases.proofs.Input.line.Given as goal

abbrev pub invariant-loop : goal.invariant-loop
invariant-loop g l = (length l.words ≡ length l.fn.words) × (l.line.count ≤ length l.words)
