-- `solve_marks` meets its contract. The invariant: the marks below q in the set were passed to the shape, and what was passed is in the set `solved`
-- beside the unions of marks, where the shape has fewer than sixteen variables. The measure is how many are left. Assumes nothing.
use Prim.Native.Nat.{◌-◌}
use mathlib.Core.Path.{◌≡◌}
use lib.ListN.{length}
use Rattle.rows.specs.MaskSet.{set_words}
use Rattle.solving.specs.Solving.{ToShape, ShapeSets, FoundFor}
use Rattle.solving.proofs.SolveShape.{Through}
use Rattle.solving.proofs.solve.solve_marks.Given as goal

abbrev pub invariant-loop-q : goal.invariant-loop-q
invariant-loop-q l = (length l.solved ≡ set_words)
    × ((w : ToShape l.initial.table l.at.since l.at.rows l.calls.newest l.slot) → ShapeSets w.S w.c.head l.calls.sets.now l.calls.here l.calls.there → FoundFor w l.found.words.now l.found.below
    → Through w l.calls.here l.from l.found.words.now l.at.number l.at.room l.n l.initial.buckets l.q l.rows l.table l.buckets l.solved)

abbrev pub decreases-loop-q : goal.decreases-loop-q
decreases-loop-q l = l.found.below - l.q
