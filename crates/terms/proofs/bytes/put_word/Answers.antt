-- `put_word` meets its contract: the word's two bytes are put.
use Rattle.std.proofs.Common.{arith, ◌∙◌}
use Rattle.terms.proofs.BytesPut.{word_put}
use Rattle.terms.proofs.bytes.put_word.Goals as goal

pub returns : goal.returns
returns c = word_put c.args.bytes.now _ c.args.i _ c.args.word (omega arith) c.requires.0 c.requires.1 (rw c.narrow.ensures at (c.copy_from_slice.ensures.after ∙ c.to_le_bytes.ensures))
