-- `later` meets its contract. The invariant: the places from j on have their variables, and the mask those from j on. Assumes nothing.
use Prim.Native.Nat.{◌-◌, ◌≤◌}
use mathlib.Core.Path.{◌≡◌}
use mathlib.Core.List.{◌∷◌}
use lib.ListN.{length, drop}
use Rattle.terms.specs.Mask.{Marks}
use Rattle.program.specs.Program.{Nth, Clause, bodies}
use Rattle.program.specs.Shapes.{In}
use Rattle.directory.specs.Said.{said}
use Rattle.directory.specs.Walked.{Placed}
use Rattle.directory.specs.Lists.{first_of, Later}
use Rattle.directory.proofs.lists.later.Given as goal

abbrev pub invariant-loop-j : goal.invariant-loop-j
invariant-loop-j l = (l.first ≡ first_of (said l.words) l.k) × (l.first ≤ l.j) × (l.j ≤ length (bodies (said l.words).clauses)) × Placed l.words (said l.words) l.dir × ((d : Clause) → Nth (said l.words).clauses l.k d → (l.j - l.first ≤ length d.body) × Later (said l.words) l.k d l.initial.dir l.dir (l.j - l.first) × Marks (λ v. In v (d.head ∷ drop (l.j - l.first) d.body)) l.mask)
