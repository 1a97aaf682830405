-- `put_bindings` meets its contract: the set is put, and behind it the places. Assumes nothing.
use Rattle.terms.proofs.NotedBindings.{bindings_put}
use Rattle.terms.proofs.noted.put_bindings.Goals as goal

pub returns : goal.returns
returns c = bindings_put c.requires.0 c.put_set.ensures
    c.put_places.ensures
