-- `predicate_of` meets its contract: a shape's first cell is its predicate. Assumes nothing.
use native.Mathlib.Omega.{arith}
use mathlib.Core.Path.{◌∙◌}
use Rattle.concerns.proofs.ActiveClauses.{shape_in_dir, shape_first}
use Rattle.concerns.proofs.active.predicate_of.Goals as goal

pub overflow_add-s : goal.overflow_add-s
overflow_add-s c = omega (arith, (shape_in_dir c.requires.setting c.requires.nth_shape).0)

pub offset_bounds-program-s : goal.offset_bounds-program-s
offset_bounds-program-s c = omega (arith, (shape_in_dir c.requires.setting c.requires.nth_shape).0)

pub bounds-program-s : goal.bounds-program-s
bounds-program-s c = omega (arith, (shape_in_dir c.requires.setting c.requires.nth_shape).0, (shape_in_dir c.requires.setting c.requires.nth_shape).1)

pub returns : goal.returns
returns c = λ w. c.from-2.ensures ∙ rw c.from.ensures (shape_first w.setting w.nth_shape)
