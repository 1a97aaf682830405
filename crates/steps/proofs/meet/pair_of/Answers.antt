-- `pair_of` meets its contract: the directory says where the shape, the atom and the declarations stand. Assumes nothing.
use Rattle.steps.proofs.Meetings.{shape_in}
use Rattle.steps.proofs.meet.pair_of.Goals as goal

pub shape_run-requires : goal.shape_run-requires
shape_run-requires c = shape_in c.requires
