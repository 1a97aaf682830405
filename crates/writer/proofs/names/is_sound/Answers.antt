-- `writer::names::is_sound` meets its contract: the names before it in its kind are searched by their hashes. Assumes nothing.
use mathlib.Core.Path.{ap, ◌∙◌}
use native.Mathlib.Omega.{arith}
use lib.ListN.{length}
use Rattle.text.proofs.Names.{length_entry}
use Rattle.writer.proofs.NameChecks.{first_within}
use Rattle.writer.proofs.names.is_sound.Goals as goal

pub find_name-requires : goal.find_name-requires
find_name-requires c = let a = c.args in
    let w = first_within a.predicates a.i in
    (ap length c.name_at-key.ensures ∙ length_entry a.names.now a.i c.requires.0.within, omega (arith, c.requires.0.within), omega (arith, c.requires.0.few), omega (arith, c.requires.0.few), omega (arith, c.first_of-first.ensures))
