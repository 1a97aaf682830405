-- `meet_stored` meets its contract: the bindings are of the cells of the shape and of the atom, and so are the sets that are made of them.
-- Assumes nothing.
use Rattle.steps.proofs.Meetings.{store_sets, meeting_bindings, meeting_stored}
use Rattle.steps.proofs.meet.meet_stored.Goals as goal

pub sets_of-requires : goal.sets_of-requires
sets_of-requires c = meeting_stored c.requires.0 c.pair_of.ensures c.args.places.now (c.requires.1 c.requires.0)

pub returns : goal.returns
returns c = λ m. store_sets (c.sets_of.ensures m.S m.A (meeting_bindings m c.pair_of.ensures c.args.places.now (c.requires.1 m)))
