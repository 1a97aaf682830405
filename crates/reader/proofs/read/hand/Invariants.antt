-- The invariant of `hand`: so many elements are handed over, and what was lent stands behind them.
use Rattle.std.proofs.Common.{◌≡◌, ◌++◌, ◌-◌, length, replicate, take, drop}
use Rattle.reader.proofs.read.hand.Given as goal

abbrev pub invariant-loop-i : goal.invariant-loop-i
invariant-loop-i g l = l.lent ≡ take l.i (l.own ++ replicate (length l.initial.lent - length l.own) l.zero) ++ drop l.i l.initial.lent
