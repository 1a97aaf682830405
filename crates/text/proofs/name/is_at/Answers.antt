-- `text::name::is_at` meets its contract: names whose hashes differ are not the same. Assumes nothing.
use mathlib.Core.Path.{sym, ◌∙◌}
use borrow.Author.Tests.{ne_eqb}
use Rattle.text.specs.Name.{entry}
use Rattle.text.proofs.Names.{hashes_apart}
use Rattle.text.proofs.name.is_at.Goals as goal

pub returns-else-its-hash : goal.returns-else-its-hash
returns-else-its-hash c = λ e f. ne_eqb c.args.its c.args.hash c.if-its-hash.false ∙ sym (hashes_apart (entry c.args.names.now c.args.i) c.args.key.now (λ g. c.if-its-hash.false (e ∙ g ∙ sym f)))
