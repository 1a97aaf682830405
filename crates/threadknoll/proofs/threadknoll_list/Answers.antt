-- `threadknoll_list` meets its contract: what `list` promises of its reply holds of the one that C is told, since the two are the same.
-- Assumes nothing.
use Rattle.threadknoll.proofs.threadknoll_list.Goals as goal

pub returns : goal.returns
returns c = rw c.tell.ensures c.list.ensures
