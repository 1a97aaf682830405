-- `of_shape` meets its contract: a shape without a call row to look at, or apart from the head, gives nothing; else its call rows are met. Assumes nothing.
use native.Mathlib.Omega.{arith}
use borrow.Author.Tests.{not-true, not-false}
use Rattle.ends.proofs.OneShape.{shape_few, shape_in_heads, shape_meets, shape_met, shape_empty, shape_apart}
use Rattle.ends.proofs.heads.of_shape.Goals as goal

pub offset_bounds-heads-s : goal.offset_bounds-heads-s
offset_bounds-heads-s c = omega (arith, shape_few c.requires.0)

pub bounds-heads-s : goal.bounds-heads-s
bounds-heads-s c = shape_in_heads c.requires.0

pub returns-then-newest-from : goal.returns-then-newest-from
returns-then-newest-from c = record {
  stepped = λ a. shape_empty a _ _ _ _ c.requires.1 (rw c.from-newest.ensures at c.if-newest-from.true);
  notes = c.requires.4;
  within = c.requires.1.within;
}

pub meet_noted-requires : goal.meet_noted-requires
meet_noted-requires c = (shape_meets c.requires.0, c.requires.4)

pub returns-then-not-meet_noted : goal.returns-then-not-meet_noted
returns-then-not-meet_noted c = record {
  stepped = λ a. shape_apart a _ _ _ _ c.requires.1 (rw (not-true c.meet_noted.result c.if-not-meet_noted.true-raw) at (c.meet_noted.ensures.0 (shape_meets a)));
  notes = c.meet_noted.ensures.1;
  within = c.requires.1.within;
}

pub at_shape-requires : goal.at_shape-requires
at_shape-requires c = let (a, writable, behind, size, _) = c.requires in (shape_met a c.from-newest.ensures (rw (not-false c.meet_noted.result c.if-not-meet_noted.false-raw) at (c.meet_noted.ensures.0 (shape_meets a))), writable, behind, size)

pub returns : goal.returns
returns c = record {
  stepped = λ a. c.at_shape.ensures.stepped (shape_met a c.from-newest.ensures (rw (not-false c.meet_noted.result c.if-not-meet_noted.false-raw) at (c.meet_noted.ensures.0 (shape_meets a))));
  notes = c.meet_noted.ensures.1;
  within = c.at_shape.ensures.within;
}
