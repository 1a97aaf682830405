-- The text keeps its length.
use Rattle.std.proofs.Common.{◌≡◌, length}
use Rattle.vectors.proofs.bad_bytes.try_everywhere.Given as goal

abbrev pub invariant-loop-n : goal.invariant-loop-n
invariant-loop-n g l = length l.text ≡ length l.initial.text
