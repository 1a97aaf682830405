-- `put_places` meets its contract: the place of a variable in the set is put behind those before it.
use native.Mathlib.Omega.{arith}
use Rattle.terms.specs.Store.{all_variables}
use Rattle.terms.proofs.CodedPlaces.{count_zero, count_above, count_in, count_out, put_none, put_out, put_in}
use Rattle.terms.proofs.noted.put_places.Goals as goal
use Rattle.terms.proofs.noted.put_places.Goals.{else-has, then-has}

pub loop-x-init : goal.loop-x-init
loop-x-init c = (omega (arith, count_zero c.args.set), put_none _ _ _ _)

pub bounds-bytes-end : goal.bounds-bytes-end
bounds-bytes-end c = let inv = c.loop-x.invariant in
    let h = c.has.ensures.0 (rw c.if-has.true tt) in
    omega (arith, count_above c.args.set c.loop-x.x all_variables (omega arith) h, inv.1.put.size)

pub overflow_add-end : goal.overflow_add-end
overflow_add-end c = let inv = c.loop-x.invariant in
    let h = c.has.ensures.0 (rw c.if-has.true tt) in
    omega (arith, count_above c.args.set c.loop-x.x all_variables (omega arith) h, inv.1.put.size)

pub loop-x-preserved : goal.loop-x-preserved
loop-x-preserved c = let inv = c.loop-x.invariant in
    let set = c.args.set in
    let x = c.loop-x.x in
    elim c.if-has.branch [
      | then-has w ↦ let h = c.has.ensures.0 (rw w.if-has.true tt) in (
        omega (arith, w.end-is, count_in set x h),
        rw w.bytes-is (put_in inv.1 _ inv.0 (omega (arith, count_above set x all_variables (omega arith) h, inv.1.put.size)) h),
      )
      | else-has w ↦ (
        omega (arith, w.end-is, count_out set x (λ h. rw w.if-has.false at (c.has.ensures.1 h))),
        rw w.bytes-is (put_out inv.1 (λ h. rw w.if-has.false at (c.has.ensures.1 h))),
      )
    ]
