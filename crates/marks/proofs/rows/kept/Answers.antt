-- `kept` meets its contract: `&` marks what both masks mark. Assumes nothing.
use Rattle.terms.proofs.Masks.{has_and}
use Rattle.marks.proofs.rows.kept.Goals as goal

pub returns : goal.returns
returns c = has_and c.args.list c.args.mask
