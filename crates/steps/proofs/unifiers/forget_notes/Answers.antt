-- `forget_notes` meets its contract: both words that count notes are 0. Assumes nothing.
use Rattle.steps.proofs.NotedUnifiers.{notes_forgotten}
use Rattle.steps.proofs.unifiers.forget_notes.Goals as goal

pub returns : goal.returns
returns c = notes_forgotten c.requires c.put_word.ensures c.put_word-2.ensures
