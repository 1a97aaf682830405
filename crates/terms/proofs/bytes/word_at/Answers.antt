-- `word_at` meets its contract: a word is its two bytes.
use Rattle.std.proofs.Common.{rules}
use Rattle.terms.specs.Bytes.{word_at}
use Rattle.terms.proofs.bytes.word_at.Goals as goal

pub returns : goal.returns
unfolding word_at
returns c = search rules
