-- `text::name::find_name` meets its contract. The loop's invariant: what is left to seek from `i` is what was to be sought from `from`. Assumes nothing.
use Prim.Native.Nat.{◌-◌}
use mathlib.Core.Path.{◌≡◌}
use Rattle.text.specs.Name.{seek, Hashed}
use Rattle.text.proofs.name.find_name.Given as goal

abbrev pub invariant-loop-i : goal.invariant-loop-i
invariant-loop-i l = Hashed l.names l.hashes l.from l.to → seek l.names l.key l.from (l.to - l.from) ≡ seek l.names l.key l.i (l.to - l.i)
