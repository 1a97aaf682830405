-- `text::name::hash_of` meets its contract. Assumes nothing.
use Rattle.std.proofs.Common.{rules}
use Rattle.std.proofs.iter.runs.Made.{chains}
use Rattle.text.proofs.Names.{hash_step}
use Rattle.text.proofs.name.hash_of.Goals as goal

pub returns : goal.returns
returns c = search (rules, chains, hash_step)
