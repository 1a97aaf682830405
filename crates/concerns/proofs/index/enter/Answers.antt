-- `enter` meets its contract: the bit is put in, and no other is touched. Assumes nothing.
use Rattle.concerns.proofs.ActiveClauses.{entered_one}
use Rattle.concerns.proofs.index.enter.Goals as goal

pub returns : goal.returns
returns c = entered_one c.args.set.now c.args.q c.args.k c.requires.0 c.requires.1
