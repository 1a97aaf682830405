-- `sets_of` meets its contract: a variable that is bound is bound again.
use Prim.Native.Nat.{◌<◌}
use native.Mathlib.Omega.{arith}
use mathlib.Core.Path.{◌≡◌}
use Rattle.terms.proofs.Refilled.{refilled_none, whole_there, refilled_over, refilled_more, refilled_all}
use Rattle.terms.proofs.unifier.Atoms.sets_of.Goals as goal
use Rattle.terms.proofs.unifier.Atoms.sets_of.Goals.{else-place-lt-NO_PLACE, then-place-lt-NO_PLACE}

pub loop-x-init : goal.loop-x-init
loop-x-init c = refilled_none c.args.self.now.functions.now c.args.self.now.a.now c.args.self.now.b.now c.args.places.now c.requires

pub set_at-gained-requires : goal.set_at-gained-requires
set_at-gained-requires c = let w = c.from.ensures in
    let l : c.from.result < 128 = rw w c.if-place-lt-NO_PLACE.true in (
      whole_there c.args.self.now.functions.now c.args.self.now.a.now c.args.self.now.b.now c.args.places.now c.requires
          c.loop-x.x c.from.result (omega arith) w l,
      l,
      c.requires.first_short,
    )

pub returns : goal.returns
returns c = let l = c.loop-x in
    let e : l.x ≡ 32 = omega arith in
    refilled_all c.args.self.now.functions.now c.args.self.now.a.now c.args.self.now.b.now c.args.places.now c.requires l.sets (rw e at l.invariant)

pub loop-x-preserved : goal.loop-x-preserved
loop-x-preserved c = let F = c.args.self.now.functions.now in
    let a = c.args.self.now.a.now in
    let b = c.args.self.now.b.now in
    let P = c.args.places.now in
    let l = c.loop-x in
    elim c.if-place-lt-NO_PLACE.branch [
      | then-place-lt-NO_PLACE z ↦ rw z.sets-is (refilled_more F a b P c.requires l.sets l.x (omega arith) l.invariant z.from.result z.set_at-gained.result z.from.ensures
          (rw z.from.ensures z.if-place-lt-NO_PLACE.true) z.set_at-gained.ensures _ z.replace.ensures)
      | else-place-lt-NO_PLACE z ↦ rw z.sets-is (refilled_over F a b P c.requires l.sets l.x (omega arith) l.invariant z.if-place-lt-NO_PLACE.false)
    ]
