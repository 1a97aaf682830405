-- `written_lines::lines::put_declarations` meets its contract. The loop's invariant: the declarations so far are written. Assumes nothing.
use Prim.Native.Nat.{ℕ}
use mathlib.Core.Path.{subst}
use mathlib.Core.List.{List}
use native.Mathlib.Numerals.{add-one}
use Rattle.text.specs.Put.{Put}
use Rattle.text.proofs.Puts.{put_append}
use Rattle.written_lines.proofs.LineTexts.{declarations_more}
use Rattle.written_lines.proofs.lines.put_declarations.Goals as goal

pub loop-i-preserved : goal.loop-i-preserved
loop-i-preserved c = let a = c.args in
    rw add-one
    (subst (λ (t : List ℕ). Put t a.out.now c.put_declaration-end.new.out a.from c.put_declaration-end.result)
    (declarations_more a.keyword.now a.names.now a.first a.arities.now c.loop-i.i c.loop-i-test.true)
    (put_append c.loop-i.invariant c.put_declaration-end.ensures))
