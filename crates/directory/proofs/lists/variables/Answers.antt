-- `variables` meets its contract: the cells of an atom have its variables. Assumes nothing.
use Rattle.directory.proofs.MaskLaws.{run_cells, present_fits, present_marks}
use Rattle.directory.proofs.lists.variables.Goals as goal

pub present-requires : goal.present-requires
present-requires c = run_cells _ _ _ c.requires

pub overflow_cast-result : goal.overflow_cast-result
overflow_cast-result c = record { fits = present_fits _ _ _ c.requires c.present.result c.present.ensures }

pub returns : goal.returns
returns c = λ a. present_marks _ _ _ a c.present.result c.present.ensures
