-- `bound_set` meets its contract: a variable that is bound is joined to the set.
use native.Mathlib.Omega.{arith}
use Rattle.terms.proofs.CodedPlaces.{bound_more, bound_same}
use Rattle.terms.proofs.noted.bound_set.Goals as goal
use Rattle.terms.proofs.noted.bound_set.Goals.{else-place-lt-NO_PLACE, then-place-lt-NO_PLACE}

pub loop-x-preserved : goal.loop-x-preserved
loop-x-preserved c = let places = c.args.places.now in
    elim c.if-place-lt-NO_PLACE.branch [
      | then-place-lt-NO_PLACE w ↦ rw (w.set-is, w.only-set.ensures) (bound_more places _ _ c.loop-x.invariant w.if-place-lt-NO_PLACE.true)
      | else-place-lt-NO_PLACE w ↦ rw w.set-is (bound_same places _ _ c.loop-x.invariant (λ l. omega (arith, w.if-place-lt-NO_PLACE.false)))
    ]
