-- The invariant of `pad`: the key holds the bytes so far, and zeros behind them.
use Rattle.std.proofs.Common.{◌≡◌, take}
use Rattle.text.specs.Name.{padded}
use Rattle.text.proofs.name.pad.Given as goal

abbrev pub invariant-loop-i : goal.invariant-loop-i
invariant-loop-i l = l.key ≡ padded (take l.i l.s)
