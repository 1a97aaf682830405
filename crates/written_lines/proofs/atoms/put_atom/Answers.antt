-- `written_lines::atoms::put_atom` meets its contract: the predicate, and then its arguments. Assumes nothing.
use Prim.Native.Nat.{ℕ}
use mathlib.Core.Path.{ap, ◌∙◌, subst}
use mathlib.Core.List.{List}
use native.Mathlib.Omega.{arith}
use lib.ListN.{length, get_or}
use Rattle.text.specs.Put.{Put}
use Rattle.text.proofs.Puts.{put_append}
use Rattle.written_lines.proofs.AtomWalk.{arguments_run, atom_text, tail_within, tail_behind}
use Rattle.written_lines.proofs.atoms.put_atom.Goals as goal

pub overflow_add-result : goal.overflow_add-result
overflow_add-result c = let n = c.from-count.ensures ∙ ap (λ (q : ℕ). get_or c.args.symbols.now.predicates.now q 0) c.from-predicate.ensures in
    let w = c.put_arguments-walked.ensures (arguments_run _ _ _ _ c.requires c.from-count.result n) in
    omega (arith, tail_within _ _ _ _ c.requires c.put_arguments-walked.result.at w.within)

pub returns : goal.returns
returns c = let s = c.args in
    let n = c.from-count.ensures ∙ ap (λ (q : ℕ). get_or s.symbols.now.predicates.now q 0) c.from-predicate.ensures in
    λ a.
    let w = c.put_arguments-walked.ensures (arguments_run _ _ _ _ a c.from-count.result n) in
    record {
      to_come = tail_behind _ _ _ _ a c.put_arguments-walked.result.at w.to_come;
      within = tail_within _ _ _ _ a c.put_arguments-walked.result.at w.within;
      put =
          subst (λ (t : List ℕ). Put t s.out.now c.put_arguments-walked.new.out s.from.end c.put_arguments-walked.result.end)
          (atom_text _ _ _ _ a s.symbols.now.names.now s.modes.now (length s.symbols.now.predicates.now) c.from-predicate.result c.from-predicate.ensures)
          (put_append c.put_symbol-end.ensures w.put);
    }
