-- Both runs are atoms, and the store that `unify` leaves has whole terms alone.
use Rattle.std.proofs.Common.{arith}
use Rattle.unify_main.proofs.AtomRuns.{atom_cells_law, unified_bindings}
use Rattle.unify_main.proofs.pair.put_unifier.Goals as goal

pub present-first-requires : goal.present-first-requires
present-first-requires g c = (atom_cells_law _ _ _ c.requires.0).1

pub present-second-requires : goal.present-second-requires
present-second-requires g c = (atom_cells_law _ _ _ c.requires.1).1

pub put_variables-requires : goal.put_variables-requires
put_variables-requires g c =
    (unified_bindings _ _ _ _ c.requires.0 c.requires.1 c.unify.result c.unify.new.places c.unify.new.sets c.if-not-unify.false c.unify.ensures, omega arith)

pub put_variables-requires-2 : goal.put_variables-requires-2
put_variables-requires-2 g c =
    (unified_bindings _ _ _ _ c.requires.0 c.requires.1 c.unify.result c.unify.new.places c.unify.new.sets c.if-not-unify.false c.unify.ensures, omega arith)
