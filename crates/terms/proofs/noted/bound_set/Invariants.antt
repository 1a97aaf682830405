-- The invariant of `bound_set`: the set has the bound variables of those passed.
use Prim.Native.Nat.{◌<◌}
use lib.ListN.{get_or}
use Rattle.terms.specs.Mask.{Marks}
use Rattle.terms.specs.Store.{no_place}
use Rattle.terms.proofs.noted.bound_set.Given as goal

abbrev pub invariant-loop-x : goal.invariant-loop-x
invariant-loop-x l = Marks (λ v. (v < l.x) × (get_or l.places v 0 < no_place)) l.set
