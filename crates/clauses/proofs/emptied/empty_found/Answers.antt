-- `empty_found` meets its contract: the words that are not cleared have no mark. Assumes nothing.
use native.Mathlib.Omega.{arith}
use mathlib.Core.Path.{◌∙◌}
use Rattle.rows.proofs.ClearedMarks.{cleared_empty}
use Rattle.clauses.proofs.emptied.empty_found.Goals as goal

pub returns : goal.returns
returns c = c.clear.ensures ∙ cleared_empty c.args.found.now c.args.words c.requires.0 c.requires.1 (λ i. (c.slice_known-1.given i).fits) (λ q h. omega (arith, c.requires.2 q h))
