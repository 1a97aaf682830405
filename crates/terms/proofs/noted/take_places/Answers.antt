-- `take_places` meets its contract: the place of a variable in the set stands behind those before it.
use Prim.Native.Nat.{ℕ}
use native.Mathlib.Omega.{arith}
use mathlib.Core.Path.{ap}
use lib.ListN.{get_or}
use Rattle.std.proofs.lemmas.List.{set-get_or}
use Rattle.terms.specs.Store.{all_variables}
use Rattle.terms.proofs.CodedPlaces.{count_zero, count_above, count_in, count_out, taking_none, taking_out, taking_in}
use Rattle.terms.proofs.noted.take_places.Goals as goal
use Rattle.terms.proofs.noted.take_places.Goals.{else-has, then-has}

pub loop-x-init : goal.loop-x-init
loop-x-init c = (omega (arith, count_zero c.args.set), taking_none _ _ _)

pub bounds-bytes-end : goal.bounds-bytes-end
bounds-bytes-end c = let h = c.has.ensures.0 (rw c.if-has.true tt) in
    omega (arith, count_above c.args.set c.loop-x.x all_variables (omega arith) h, c.loop-x.invariant.0)

pub overflow_add-end : goal.overflow_add-end
overflow_add-end c = let h = c.has.ensures.0 (rw c.if-has.true tt) in
    omega (arith, count_above c.args.set c.loop-x.x all_variables (omega arith) h, c.loop-x.invariant.0)

pub loop-x-preserved : goal.loop-x-preserved
loop-x-preserved c = let inv = c.loop-x.invariant in
    let set = c.args.set in
    let x = c.loop-x.x in
    elim c.if-has.branch [
      | then-has w ↦ let h = c.has.ensures.0 (rw w.if-has.true tt) in (
        omega (arith, w.end-is, count_in set x h),
        rw w.places-is (taking_in inv.1 (omega arith) _ (ap (λ (i : ℕ). get_or c.args.bytes.now i 0) inv.0) h),
      )
      | else-has w ↦ (
        omega (arith, w.end-is, count_out set x (λ h. rw w.if-has.false at (c.has.ensures.1 h))),
        rw (w.places-is, set-get_or c.loop-x.places x 0) (taking_out inv.1 (omega arith) (λ h. rw w.if-has.false at (c.has.ensures.1 h))),
      )
    ]
