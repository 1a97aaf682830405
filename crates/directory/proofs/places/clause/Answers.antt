-- `clause` meets its contract: behind the body's length stand the head and then the body's atoms. Assumes nothing.
use native.Mathlib.Omega.{arith}
use mathlib.Core.Path.{refl, ap, ◌∙◌}
use lib.ListN.{length, length-set, length-take}
use Rattle.directory.proofs.ClauseWalk.{body_length, head_from, head_ends, body_from, head_cells, head_met, clause_written}
use Rattle.directory.proofs.ShapeVariables.{met_few}
use Rattle.directory.proofs.places.clause.Goals as goal

pub overflow_add-body : goal.overflow_add-body
overflow_add-body c = let a = c.requires.0 in omega (arith, head_ends _ _ _ _ a, c.atom_cells-cells.ensures (head_from _ _ _ _ a), c.requires.1)

pub slice_bounds-numbers-end : goal.slice_bounds-numbers-end
slice_bounds-numbers-end c = let a = c.requires.0 in omega (arith, head_ends _ _ _ _ a, c.atom_cells-cells.ensures (head_from _ _ _ _ a), c.requires.1)

pub numbers-variables-requires : goal.numbers-variables-requires
numbers-variables-requires c = let a = c.requires.0 in let e = c.atom_cells-cells.ensures (head_from _ _ _ _ a) in (head_cells _ _ _ _ a c.atom_cells-cells.result e c.requires.5, rw length-take (omega (arith, e, a.within.head_atom.short)), refl)

pub narrow-requires-3 : goal.narrow-requires-3
narrow-requires-3 c = let a = c.requires.0 in let e = c.atom_cells-cells.ensures (head_from _ _ _ _ a) in omega (arith, c.numbers-variables.ensures.count, ap length (head_met _ _ _ _ a c.atom_cells-cells.result e c.requires.5), met_few _ _ _ a.within.head_atom)

pub body_atoms-requires : goal.body_atoms-requires
body_atoms-requires c = let a = c.requires.0 in let e = c.atom_cells-cells.ensures (head_from _ _ _ _ a) in (body_from _ _ _ _ a c.atom_cells-cells.result e c.from-m.result c.from-m.ensures, c.requires.1, rw (length-set, length-set, length-set, length-set) c.requires.2, omega (arith, c.requires.4, c.from-j.ensures, c.from-m.ensures, body_length _ _ _ _ a, a.within.body), omega (arith, e, head_ends _ _ _ _ a))

pub returns : goal.returns
returns c = λ a.
    let e = c.atom_cells-cells.ensures (head_from _ _ _ _ a) in
    let b = body_from _ _ _ _ a c.atom_cells-cells.result e c.from-m.result c.from-m.ensures in
    let w = rw (c.narrow.ensures, c.narrow-2.ensures, c.narrow-3.ensures, c.narrow-4.ensures, c.from-j.ensures) at (c.body_atoms.ensures b) in
    clause_written _ _ _ _ a c.args.dir.now _ c.args.k c.atom_cells-cells.result c.numbers-variables.result c.from-m.result c.body_atoms.result
    c.requires.2 c.requires.3 c.requires.4 e (c.numbers-variables.ensures.count ∙ ap length (head_met _ _ _ _ a c.atom_cells-cells.result e c.requires.5))
    (c.from-m.ensures ∙ body_length _ _ _ _ a) w
