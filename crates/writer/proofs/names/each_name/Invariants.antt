-- `writer::names::each_name` meets its contract. The loop's invariant: the names from `i` on decide, and those before have their hashes. Assumes nothing.
use Prim.Native.Nat.{◌-◌, ◌≤◌}
use mathlib.Core.Path.{◌≡◌}
use lib.ListN.{length}
use Rattle.text.specs.Name.{max_names, Hashed}
use Rattle.writer.specs.Names.{each_name}
use Rattle.writer.proofs.names.each_name.Given as goal

abbrev pub invariant-loop-i : goal.invariant-loop-i
invariant-loop-i l = (l.i ≤ l.symbols) × (length l.hashes ≡ max_names) × Hashed l.names l.hashes 0 l.i × (each_name l.names l.predicates 0 l.symbols ≡ each_name l.names l.predicates l.i (l.symbols - l.i))

abbrev pub decreases-loop-i : goal.decreases-loop-i
decreases-loop-i l = l.symbols - l.i
