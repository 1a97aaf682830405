-- The invariant of `put_places`: the places of the variables passed are put.
use Prim.Native.Nat.{◌+◌}
use mathlib.Core.Path.{◌≡◌}
use Rattle.terms.specs.Noted.{count_of, PlacesPut}
use Rattle.terms.proofs.noted.put_places.Given as goal

abbrev pub invariant-loop-x : goal.invariant-loop-x
invariant-loop-x l = (l.end ≡ l.at + count_of l.set l.x) × PlacesPut l.places l.initial.bytes l.bytes l.set l.at l.x
