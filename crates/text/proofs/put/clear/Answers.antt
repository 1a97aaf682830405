-- `text::put::clear` meets its contract. Assumes nothing.
use native.Mathlib.Omega.{arith}
use Rattle.std.proofs.lemmas.Grind.{common_steps}
use Rattle.text.proofs.Rooms.{cleared, cleared_none}
use Rattle.text.proofs.put.clear.Goals as goal

pub returns-then-from-out : goal.returns-then-from-out
returns-then-from-out c = grind (arith, common_steps, c.fill.ensures.after, cleared)

pub returns-else-from-out : goal.returns-else-from-out
returns-else-from-out c = cleared_none c.args.out.now c.args.from (omega arith)
