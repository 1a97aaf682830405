-- `goal` meets its contract: behind the goal's atom stand its variable count and the modes. Assumes nothing.
use native.Mathlib.Omega.{arith}
use Rattle.directory.proofs.GoalWalk.{goal_atom_from, count_within, modes_within, modes_sound, modes_length_few, goal_written}
use Rattle.directory.proofs.goal.goal.Goals as goal

pub overflow_add-end : goal.overflow_add-end
overflow_add-end c = let a = c.requires.0 in omega (arith, count_within _ _ _ _ a c.atom_cells-cells.result (c.atom_cells-cells.ensures (goal_atom_from _ _ _ _ a)), c.requires.1)

pub offset_bounds-declared-end : goal.offset_bounds-declared-end
offset_bounds-declared-end c = let a = c.requires.0 in omega (arith, count_within _ _ _ _ a c.atom_cells-cells.result (c.atom_cells-cells.ensures (goal_atom_from _ _ _ _ a)), c.requires.1)

pub bounds-declared-end : goal.bounds-declared-end
bounds-declared-end c = let a = c.requires.0 in count_within _ _ _ _ a c.atom_cells-cells.result (c.atom_cells-cells.ensures (goal_atom_from _ _ _ _ a))

pub overflow_add-from : goal.overflow_add-from
overflow_add-from c = let a = c.requires.0 in omega (arith, count_within _ _ _ _ a c.atom_cells-cells.result (c.atom_cells-cells.ensures (goal_atom_from _ _ _ _ a)), c.requires.1)

pub overflow_add-to : goal.overflow_add-to
overflow_add-to c = let a = c.requires.0 in omega (arith, modes_within _ _ _ _ a c.atom_cells-cells.result (c.atom_cells-cells.ensures (goal_atom_from _ _ _ _ a)), c.requires.1, c.from-count.ensures)

pub narrow-requires-2 : goal.narrow-requires-2
narrow-requires-2 c = let a = c.requires.0 in omega (arith, count_within _ _ _ _ a c.atom_cells-cells.result (c.atom_cells-cells.ensures (goal_atom_from _ _ _ _ a)), c.requires.1)

pub slice_bounds-mask-end : goal.slice_bounds-mask-end
slice_bounds-mask-end c = let a = c.requires.0 in omega (arith, modes_within _ _ _ _ a c.atom_cells-cells.result (c.atom_cells-cells.ensures (goal_atom_from _ _ _ _ a)), c.from-count.ensures)

pub mask-requires : goal.mask-requires
mask-requires c = let a = c.requires.0 in let e = c.atom_cells-cells.ensures (goal_atom_from _ _ _ _ a) in (modes_sound _ _ _ _ a c.atom_cells-cells.result e c.from-count.result c.from-count.ensures, modes_length_few _ _ _ _ a c.atom_cells-cells.result e c.from-count.result c.from-count.ensures)

pub returns : goal.returns
returns c = λ a. let e = c.atom_cells-cells.ensures (goal_atom_from _ _ _ _ a) in rw (c.narrow.ensures, c.narrow-2.ensures) (goal_written _ _ _ _ a c.atom_cells-cells.result e c.from-count.result c.from-count.ensures _ c.mask.result c.mask.ensures c.requires.2)
