-- `writer::names::is_entry` meets its contract: the bytes before the first zero are the name. Assumes nothing.
use Prim.Native.Nat.{ℕ}
use mathlib.Core.Path.{sym, ap, ◌∙◌}
use mathlib.Core.List.{List}
use native.Mathlib.Omega.{arith}
use lib.Seq.{length-take-le}
use borrow.Author.Tests.{not-true, not-false}
use Rattle.text.specs.Name.{padded, same}
use Rattle.text.specs.Token.{is_name}
use Rattle.text.proofs.Cuts.{up_to_short}
use Rattle.writer.proofs.NameChecks.{name_front}
use Rattle.writer.proofs.names.is_entry.Goals as goal

pub slice_bounds-name-end : goal.slice_bounds-name-end
slice_bounds-name-end c = let key = c.args.key.now in
    let s = up_to_short 0 key in
    sym (length-take-le c.find-end.result key (omega (arith, c.find-end.ensures)))

pub returns-then-not-is_name : goal.returns-then-not-is_name
returns-then-not-is_name c = let key = c.args.key.now in
    let front = name_front key c.find-end.result c.find-end.ensures in
    rw (sym (ap is_name front) ∙ sym c.is_name.ensures ∙ not-true _ c.if-not-is_name.true-raw)

pub returns : goal.returns
returns c = let key = c.args.key.now in
    let front = name_front key c.find-end.result c.find-end.ensures in
    rw (sym (ap is_name front) ∙ sym c.is_name.ensures ∙ not-false _ c.if-not-is_name.false-raw)
    (c.same_bytes.ensures ∙ ap (λ (l : List ℕ). same l key) (c.pad-kept.ensures ∙ ap padded front))
