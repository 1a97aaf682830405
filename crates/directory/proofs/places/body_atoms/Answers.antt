-- `body_atoms` meets its contract. The invariant: the atoms passed are written. Assumes nothing.
use native.Mathlib.Omega.{arith}
use mathlib.Core.Path.{◌≡◌}
use lib.ListN.{length-set}
use Rattle.directory.proofs.AtomsFrom.{atom_ends, atom_short}
use Rattle.directory.proofs.BodyWalk.{next_atom, one_written}
use Rattle.directory.proofs.places.body_atoms.Goals as goal

pub atom_cells-cells-requires : goal.atom_cells-cells-requires
atom_cells-cells-requires c = next_atom _ _ _ _ _ c.requires.0 _ _ _ _ _ (c.loop-i.invariant.0 c.requires.0) c.loop-i-test.true

pub narrow-requires-in-loop-i : goal.narrow-requires-in-loop-i
narrow-requires-in-loop-i c = let a = next_atom _ _ _ _ _ c.requires.0 _ _ _ _ _ (c.loop-i.invariant.0 c.requires.0) c.loop-i-test.true in omega (arith, c.atom_cells-cells.ensures a, atom_short _ _ _ _ a)

pub loop-i-preserved : goal.loop-i-preserved
loop-i-preserved c = let b = next_atom _ _ _ _ _ c.requires.0 _ _ _ _ _ (c.loop-i.invariant.0 c.requires.0) c.loop-i-test.true in ((λ a. let w = c.loop-i.invariant.0 a in let next = next_atom _ _ _ _ _ a _ _ _ _ _ w c.loop-i-test.true in rw (c.narrow.ensures, c.narrow-in-loop-i.ensures) (one_written _ _ _ _ _ a _ _ _ _ _ w c.loop-i-test.true c.atom_cells-cells.result (c.atom_cells-cells.ensures next) c.requires.3 c.requires.2)), rw (length-set, length-set) c.loop-i.invariant.1, omega (arith, c.atom_cells-cells.ensures b, atom_ends _ _ _ _ b))

pub returns : goal.returns
returns c = λ a. let e : c.loop-i.i ≡ c.args.m = omega (arith, c.loop-i.auto.i-end, c.loop-i-test.false) in rw e at (c.loop-i.invariant.0 a)
