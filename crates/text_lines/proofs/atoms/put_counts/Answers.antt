-- `text_lines::atoms::put_counts` meets its contract. Assumes nothing.
use Prim.Native.Nat.{ℕ}
use mathlib.Core.Path.{ap, ◌∙◌}
use mathlib.Core.List.{List}
use lib.ListN.{set}
use Rattle.text_lines.proofs.AtomLines.{counts_put}
use Rattle.text_lines.proofs.atoms.put_counts.Goals as goal

pub returns : goal.returns
returns c = let c' = c.args.c in
    λ room xs e. c.put-3.ensures
    ∙ ap (λ (l : List ℕ). set l 2 c'.clauses) (c.put-2.ensures ∙ ap (λ (l : List ℕ). set l 1 c'.functions) c.put.ensures)
    ∙ counts_put room c.args.words.now xs c'.predicates c'.functions c'.clauses e
