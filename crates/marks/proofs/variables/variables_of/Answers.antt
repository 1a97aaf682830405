-- `variables_of` meets its contract: variables are below 16, so that the walk's set fits a mask. Assumes nothing.
use Rattle.marks.proofs.AtomVariables.{present_small}
use Rattle.marks.proofs.variables.variables_of.Goals as goal

pub overflow_cast-result : goal.overflow_cast-result
overflow_cast-result c = record { fits = present_small c.args.run.now c.present.result c.requires c.present.ensures }
