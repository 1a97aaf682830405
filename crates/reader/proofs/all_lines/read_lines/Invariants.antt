-- `reader::lines::read_lines` meets its contract. The loop's invariant: the text so far stands in the room, and what is left of it decides. Assumes nothing.
use Prim.Native.Nat.{◌+◌, ◌-◌}
use lib.ListN.{length}
use Rattle.reader.proofs.TextLines.{Reading}
use Rattle.reader.proofs.all_lines.read_lines.Given as goal

abbrev pub invariant-loop-c : goal.invariant-loop-c
invariant-loop-c l = Reading l.text l.initial.symbols l.initial.words l.symbols l.words l.c l.at

abbrev pub decreases-loop-c : goal.decreases-loop-c
decreases-loop-c l = length l.text + 1 - l.at
