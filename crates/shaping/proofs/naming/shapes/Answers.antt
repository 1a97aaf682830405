-- `shapes` meets its contract. The invariant: the atoms passed have their shapes' numbers. Assumes nothing.
use Prim.Native.Nat.{◌<◌}
use native.Mathlib.Omega.{arith}
use mathlib.Core.Path.{◌≡◌, ◌∙◌}
use lib.ListN.{length}
use Rattle.program.specs.Program.{bodies}
use Rattle.directory.specs.Layout.{body_count}
use Rattle.directory.specs.Said.{said}
use Rattle.directory.proofs.PlacedLaws.{bodies_at_most}
use Rattle.shaping.proofs.ShapesWalk.{found_placed, body_asked, answer_few, counted_new, counted_old, body_found, all_named, found_own, named_after}
use Rattle.shaping.proofs.naming.shapes.Goals as goal
use Rattle.shaping.proofs.naming.shapes.Goals.{else-s-count, then-s-count}

pub loop-j-init : goal.loop-j-init
loop-j-init c = let W = c.args.words.now in let f = c.goal_shape.ensures in
    (c.from-total.ensures ∙ f.kept body_count (omega arith) ∙ c.requires.1.body_count_law, found_placed W c.requires.0 _ _ c.requires.1 _ _ f, found_own _ _ _ _ _ f)

pub bounds-dir-j : goal.bounds-dir-j
bounds-dir-j c = omega (arith, c.loop-j.invariant.0, c.loop-j-test.true, bodies_at_most _ c.requires.0, c.loop-j.invariant.2.shaped.size)

pub bounds-dir-j-in-loop-j : goal.bounds-dir-j-in-loop-j
bounds-dir-j-in-loop-j c = omega (arith, c.loop-j.invariant.0, c.loop-j-test.true, bodies_at_most _ c.requires.0, c.loop-j.invariant.2.shaped.size)

pub number-s-requires : goal.number-s-requires
number-s-requires c = let W = c.args.words.now in let inv = c.loop-j.invariant in
    let less : c.loop-j.j < length (bodies (said W).clauses) = omega (arith, inv.0, c.loop-j-test.true) in
    rw (c.from.ensures, c.from-in-loop-j.ensures) (body_asked W c.requires.0 _ _ inv.1 _ _ inv.2 less)

pub narrow-requires : goal.narrow-requires
narrow-requires c = let W = c.args.words.now in let inv = c.loop-j.invariant in
    let less : c.loop-j.j < length (bodies (said W).clauses) = omega (arith, inv.0, c.loop-j-test.true) in
    let x = (rw (c.from.ensures, c.from-in-loop-j.ensures) at c.number-s.ensures) (body_asked W c.requires.0 _ _ inv.1 _ _ inv.2 less) in
    omega (arith, answer_few W c.requires.0 _ _ inv.1 _ _ inv.2 less _ _ x, inv.2.few, bodies_at_most W c.requires.0)

pub bounds-dir-j-in-loop-j-2 : goal.bounds-dir-j-in-loop-j-2
bounds-dir-j-in-loop-j-2 c = omega (arith, c.number-s.auto.dir, c.loop-j.invariant.2.shaped.size, c.loop-j.invariant.0, c.loop-j-test.true, bodies_at_most _ c.requires.0)

pub returns : goal.returns
returns c = let W = c.args.words.now in let inv = c.loop-j.invariant in
    let e : c.loop-j.j ≡ length (bodies (said W).clauses) = omega (arith, inv.0, c.loop-j.auto.j-end, c.loop-j-test.false) in
    rw c.narrow-2.ensures (named_after _ _ _ _ 0 1 c.goal_shape.ensures (all_named W c.requires.0 _ _ inv.1 _ _ inv.2 e))

pub loop-j-preserved : goal.loop-j-preserved
loop-j-preserved c = let W = c.args.words.now in let inv = c.loop-j.invariant in
    let less : c.loop-j.j < length (bodies (said W).clauses) = omega (arith, inv.0, c.loop-j-test.true) in
    let x = (rw (c.from.ensures, c.from-in-loop-j.ensures) at c.number-s.ensures) (body_asked W c.requires.0 _ _ inv.1 _ _ inv.2 less) in (
      inv.0,
      inv.1,
      rw c.narrow.ensures (body_found W c.requires.0 _ _ inv.1 _ _ inv.2 less _ _ x c.if-s-count.count
          ((elim c.if-s-count.branch [ then-s-count o ↦ o.count-is ∙ counted_new W c.requires.0 _ _ inv.1 _ _ inv.2 less _ _ x o.if-s-count.true | else-s-count o ↦ o.count-is ∙ counted_old W c.requires.0 _ _ inv.1 _ _ inv.2 less _ _ x o.if-s-count.false ]))),
    )
