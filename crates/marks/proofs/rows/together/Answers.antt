-- `together` meets its contract: `|` marks what either mask marks. Assumes nothing.
use Rattle.terms.proofs.Masks.{has_or}
use Rattle.marks.proofs.rows.together.Goals as goal

pub returns : goal.returns
returns c = has_or c.args.m c.args.n
