-- The invariant of `take_places`: the places of the variables passed are taken.
use Prim.Native.Nat.{◌+◌}
use mathlib.Core.Path.{◌≡◌}
use Rattle.terms.specs.Noted.{count_of}
use Rattle.terms.proofs.CodedPlaces.{Taking}
use Rattle.terms.proofs.noted.take_places.Given as goal

abbrev pub invariant-loop-x : goal.invariant-loop-x
invariant-loop-x l = (l.end ≡ l.from + count_of l.set l.x) × Taking l.bytes l.places l.set l.from l.x
