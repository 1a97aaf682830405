-- `meet_noting` meets its contract: what is told of the shape and the atom is noted behind the notes, or nothing is. Assumes nothing.
use Rattle.steps.proofs.Meetings.{shape_few}
use Rattle.steps.proofs.unifiers.meet_noting.Goals as goal

pub note_unified-requires : goal.note_unified-requires
note_unified-requires c = (c.requires.1.fitting, shape_few c.requires.0)

pub note_apart-requires : goal.note_apart-requires
note_apart-requires c = (c.requires.1.fitting, shape_few c.requires.0)
