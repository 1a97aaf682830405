-- `put_set` meets its contract: the set's four bytes are put.
use Rattle.std.proofs.Common.{arith, rules, ◌∙◌}
use Rattle.terms.proofs.BytesPut.{set_put}
use Rattle.terms.proofs.bytes.put_set.Goals as goal

pub returns : goal.returns
returns c = set_put c.args.bytes.now _ c.args.i _ c.args.set (omega arith) c.requires (search rules) (c.copy_from_slice.ensures.after ∙ c.to_le_bytes.ensures)
