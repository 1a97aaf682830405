-- `earlier` meets its contract. The invariant: the places before j have their lists, and the mask the variables before j. Assumes nothing.
use Prim.Native.Nat.{◌+◌, ◌-◌, ◌≤◌}
use mathlib.Core.Path.{◌≡◌}
use mathlib.Core.List.{◌∷◌}
use lib.ListN.{length, take}
use Rattle.terms.specs.Mask.{Marks}
use Rattle.program.specs.Program.{Nth, Clause, bodies}
use Rattle.program.specs.Shapes.{In}
use Rattle.directory.specs.Said.{said}
use Rattle.directory.specs.Walked.{Placed}
use Rattle.directory.specs.Lists.{first_of, ListedFrom}
use Rattle.directory.proofs.lists.earlier.Given as goal

abbrev pub invariant-loop-j : goal.invariant-loop-j
invariant-loop-j l = (l.first ≡ first_of (said l.words) l.k) × (l.end ≤ length (bodies (said l.words).clauses)) × Placed l.words (said l.words) l.dir × ((d : Clause) → Nth (said l.words).clauses l.k d → (l.end ≡ l.first + length d.body) × ListedFrom (said l.words) l.k d l.initial.dir l.dir (l.j - l.first) × Marks (λ v. In v (d.head ∷ take (l.j - l.first) d.body)) l.mask)
