-- `meet` meets its contract: a store that is left of the two has their sets. Assumes nothing.
use Rattle.steps.proofs.Meetings.{store_met}
use Rattle.steps.proofs.meet.meet.Goals as goal

pub returns : goal.returns
returns c = λ m. store_met m.p.functions m.S m.A c.meet_store.result _ _ (c.meet_store.ensures m)
