-- `meet_store` meets its contract: the cells of the shape and of the atom are those of atoms, and what unification says of them it says of these.
-- Assumes nothing.
use Rattle.steps.proofs.Meetings.{meeting_atoms, meeting_store}
use Rattle.steps.proofs.meet.meet_store.Goals as goal

pub unify-requires : goal.unify-requires
unify-requires c = meeting_atoms c.requires c.pair_of-both.ensures

pub returns : goal.returns
returns c = λ m. meeting_store m c.pair_of-both.ensures c.unify.result _ _ c.unify.ensures
