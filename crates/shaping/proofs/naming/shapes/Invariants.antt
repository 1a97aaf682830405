-- `shapes` meets its contract. The invariant: the atoms passed have their shapes' numbers. Assumes nothing.
use mathlib.Core.Path.{◌≡◌}
use lib.ListN.{length}
use Rattle.program.specs.Program.{bodies}
use Rattle.directory.specs.Said.{said}
use Rattle.directory.specs.Walked.{Placed}
use Rattle.shaping.specs.Named.{ShapesFound}
use Rattle.shaping.proofs.naming.shapes.Given as goal

abbrev pub invariant-loop-j : goal.invariant-loop-j
invariant-loop-j l = (l.total ≡ length (bodies (said l.words).clauses)) × Placed l.words (said l.words) l.initial.dir × ShapesFound (said l.words) l.initial.dir l.dir l.j l.count
