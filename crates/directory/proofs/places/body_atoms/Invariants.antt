-- `body_atoms` meets its contract. The invariant: the atoms passed are written. Assumes nothing.
use Prim.Native.Nat.{◌≤◌}
use mathlib.Core.Path.{◌≡◌}
use lib.ListN.{length}
use Rattle.directory.specs.Layout.{dir_words}
use Rattle.directory.specs.Walked.{AtomsWritten}
use Rattle.directory.specs.From.{AtomsFrom}
use Rattle.directory.proofs.places.body_atoms.Given as goal

abbrev pub invariant-loop-i : goal.invariant-loop-i
invariant-loop-i l = ((a : AtomsFrom l.declared.words.now l.from l.declared.predicates.now l.declared.functions.now l.m) → AtomsWritten l.declared.words.now a.atoms a.rest l.initial.dir l.dir l.j l.i l.at) × (length l.dir ≡ dir_words) × (l.at ≤ length l.declared.words.now)
