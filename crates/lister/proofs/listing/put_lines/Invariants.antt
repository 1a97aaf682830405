-- `lister::listing::put_lines` meets its contract. The loop's invariant: the first i lines are written. Assumes nothing.
use Prim.Native.Nat.{ℕ}
use mathlib.Core.List.{List}
use Rattle.text.specs.Put.{Put}
use Rattle.lister.specs.Joined.{joined, WritesEach}
use Rattle.lister.proofs.listing.put_lines.Given as goal

abbrev pub invariant-loop-i : goal.invariant-loop-i
invariant-loop-i g l = (texts : ℕ → List ℕ) → WritesEach g.F.Fn l.put_line texts l.count → Put (joined texts l.i) l.initial.out l.out l.start l.end
