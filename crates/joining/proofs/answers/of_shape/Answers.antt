-- `of_shape` meets its contract: the answers of the rows behind the link stand in the list. The measure is the link, which falls to an earlier row.
-- Assumes nothing.
use Prim.Native.Nat.{◌<◌}
use native.Mathlib.Omega.{arith}
use mathlib.Core.Path.{ap}
use Rattle.joining.proofs.AnswersOfShape.{walking_as, walking_begins, row_read, next_falls, room, walking_older, walking_there, walking_new, walking_ends}
use Rattle.joining.proofs.answers.of_shape.Goals as goal
use Rattle.joining.proofs.answers.of_shape.Goals.{then-row-standing, else-row-standing+then-insert, else-row-standing+else-insert}

pub loop-link-init : goal.loop-link-init
loop-link-init c = λ w. walking_begins w.shape

pub mask_at-requires : goal.mask_at-requires
mask_at-requires c = let w = c.requires in
    row_read w.shape (c.loop-link.invariant w) c.loop-link-test.true

pub overflow_sub-sides : goal.overflow_sub-sides
overflow_sub-sides c = let w = c.requires in
    omega (arith, room w.shape (c.loop-link.invariant w) c.loop-link-test.true)

pub offset_bounds-answers-sides : goal.offset_bounds-answers-sides
offset_bounds-answers-sides c = omega (arith, (c.loop-link.invariant c.requires).sided.most)

pub bounds-answers-sides : goal.bounds-answers-sides
bounds-answers-sides c = let w = c.requires in
    let d = (c.loop-link.invariant w).sided in
    omega (arith, room w.shape (c.loop-link.invariant w) c.loop-link-test.true, d.most, d.front.listing.list_size)

pub offset_bounds-answers-sides-then-insert : goal.offset_bounds-answers-sides-then-insert
offset_bounds-answers-sides-then-insert c = let w = c.requires in
    omega (arith, (c.loop-link.invariant w).sided.front.listing.within)

pub bounds-answers-sides-then-insert : goal.bounds-answers-sides-then-insert
bounds-answers-sides-then-insert c = let w = c.requires in
    let d = (c.loop-link.invariant w).sided in
    omega (arith, room w.shape (c.loop-link.invariant w) c.loop-link-test.true, d.most, d.front.listing.list_size)

pub overflow_add-sides : goal.overflow_add-sides
overflow_add-sides c = let w = c.requires in
    omega (arith, (c.loop-link.invariant w).sided.front.listing.within)

pub before_at-link-requires : goal.before_at-link-requires
before_at-link-requires c = let w = c.requires in
    row_read w.shape (c.loop-link.invariant w) c.loop-link-test.true

pub loop-link-smaller : goal.loop-link-smaller
loop-link-smaller c = let w = c.requires in
    rw c.before_at-link.ensures (next_falls w.shape (c.loop-link.invariant w) c.loop-link-test.true)

pub loop-link-preserved : goal.loop-link-preserved
loop-link-preserved c = let next_is = c.before_at-link.ensures in
    let small : c.pass_on-mask.result < 65536 = omega arith in
    let passes = rw c.mask_at.ensures at c.pass_on-mask.ensures in
    λ w. elim c.if-row-standing.branch [
      | then-row-standing v ↦ walking_as next_is v.seen-is v.answers-is (ap (λ x. x.fresh) v.sides-is) (ap (λ x. x.older) v.sides-is) (walking_older w.shape (c.loop-link.invariant w) c.loop-link-test.true passes small v.if-row-standing.true)
      | else-row-standing+then-insert v ↦ walking_as next_is v.seen-is v.answers-is (ap (λ x. x.fresh) v.sides-is) (ap (λ x. x.older) v.sides-is) (walking_new w.shape (c.loop-link.invariant w) c.loop-link-test.true passes small v.if-row-standing.false v.insert.auto.set (rw v.if-insert.true at v.insert.ensures))
      | else-row-standing+else-insert v ↦ walking_as next_is v.seen-is v.answers-is (ap (λ x. x.fresh) v.sides-is) (ap (λ x. x.older) v.sides-is) (walking_there w.shape (c.loop-link.invariant w) c.loop-link-test.true passes small v.if-row-standing.false v.insert.auto.set (rw v.if-insert.false at v.insert.ensures))
    ]

pub returns : goal.returns
returns c = λ w. walking_ends w.shape (c.loop-link.invariant w) c.loop-link-test.false
