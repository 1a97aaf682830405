-- `noted_set` meets its contract: a set is its four bytes.
use Rattle.std.proofs.Common.{rules}
use Rattle.terms.specs.Bytes.{word_at, noted_set}
use Rattle.terms.proofs.bytes.noted_set.Goals as goal

pub returns : goal.returns
unfolding noted_set word_at
returns c = search rules
