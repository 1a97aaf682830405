-- `find` meets its contract. The invariant: the search goes on with the link in the slot. The measure is what is left behind the slot.
-- Assumes nothing.
use Prim.Native.Nat.{◌+◌, ◌-◌}
use native.Mathlib.Omega.{arith}
use mathlib.Core.Path.{◌≡◌}
use Rattle.std.proofs.lemmas.Bool.Decides.{Decides-eqb}
use Rattle.std.proofs.lemmas.Slice.Eq.{slice_eq-Decides}
use Rattle.directory.specs.Layout.{predicate_shape, shape_next}
use Rattle.shaping.specs.Shaped.{Sought, Seeking}
use Rattle.shaping.proofs.ShapeSearch.{seek_first, not_found, link_few, end_most, end_ordered, unlike, found, pass, slot_grows}
use Rattle.shaping.proofs.shapes.find.Goals as goal

pub loop-link-init : goal.loop-link-init
loop-link-init c =
    let first : (a : Sought c.args.dir.now c.args.q c.args.cells c.args.to) → Seeking a.ss a.S c.args.q (predicate_shape + c.args.q) c.from-link.result =
    (λ a. rw c.from-link.ensures (seek_first _ _ _ _ a)) in
    (link_few _ _ _ _ c.requires _ _ (first c.requires), first)

pub slice_bounds-eq-count : goal.slice_bounds-eq-count
slice_bounds-eq-count c = let a = c.requires in omega (arith, c.from-end.ensures, c.from-start.ensures, end_ordered _ _ _ _ a _ _ (c.loop-link.invariant.1 a) c.loop-link-test.true)

pub slice_bounds-eq-start : goal.slice_bounds-eq-start
slice_bounds-eq-start c = let a = c.requires in omega (arith, c.from-end.ensures, c.from-start.ensures, end_ordered _ _ _ _ a _ _ (c.loop-link.invariant.1 a) c.loop-link-test.true, end_most _ _ _ _ a _ _ (c.loop-link.invariant.1 a) c.loop-link-test.true, a.shaped.size)

pub slice_bounds-eq-end : goal.slice_bounds-eq-end
slice_bounds-eq-end c = let a = c.requires in omega (arith, c.from-end.ensures, end_most _ _ _ _ a _ _ (c.loop-link.invariant.1 a) c.loop-link-test.true, a.shaped.size)

pub returns-then-eq : goal.returns-then-eq
returns-then-eq c = λ a.
    let same = slice_eq-Decides Decides-eqb _ _ _ c.eq.ensures in
    found _ _ _ _ a _ _ (c.loop-link.invariant.1 a) c.loop-link-test.true _ _ c.from-start.ensures c.from-end.ensures (same.0 c.if-eq.true)

pub loop-link-smaller : goal.loop-link-smaller
loop-link-smaller c = let a = c.requires in omega (arith, slot_grows _ _ _ _ a _ _ (c.loop-link.invariant.1 a) c.loop-link-test.true)

pub loop-link-preserved : goal.loop-link-preserved
loop-link-preserved c =
    let some = c.loop-link-test.true in
    let next : (a : Sought c.args.dir.now c.args.q c.args.cells c.args.to) → Seeking a.ss a.S c.args.q (shape_next + (c.loop-link.link - 1)) c.from-link-in-loop-link.result =
    (λ a.
    let w = c.loop-link.invariant.1 a in
    let same = slice_eq-Decides Decides-eqb _ _ _ c.eq.ensures in
    let other = unlike _ _ _ _ a _ _ w some _ _ c.from-start.ensures c.from-end.ensures (λ p. let t = same.1 p in let f = c.if-eq.false in cc) in
    rw c.from-link-in-loop-link.ensures (pass _ _ _ _ a _ _ w some other)) in
    (link_few _ _ _ _ c.requires _ _ (next c.requires), next)

pub returns : goal.returns
returns c = λ a. let e : c.loop-link.link ≡ 0 = omega (arith, c.loop-link-test.false) in not_found _ _ _ _ a _ _ (c.loop-link.invariant.1 a) e
