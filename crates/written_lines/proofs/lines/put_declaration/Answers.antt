-- `written_lines::lines::put_declaration` meets its contract: the pieces of the line, one behind another. Assumes nothing.
use Prim.Native.Nat.{ℕ}
use mathlib.Core.Path.{subst}
use mathlib.Core.List.{List}
use Rattle.text.specs.Decimal.{decimal}
use Rattle.text.specs.Put.{Put}
use Rattle.text.proofs.Puts.{put_append}
use Rattle.written_lines.specs.Tokens.{symbol_token}
use Rattle.written_lines.proofs.LineTexts.{declaration_text}
use Rattle.written_lines.proofs.lines.put_declaration.Goals as goal

pub returns : goal.returns
returns c = let a = c.args in
    subst (λ (t : List ℕ). Put t a.out.now c.put_byte.new.out a.from c.put_byte.result)
    (declaration_text a.keyword.now (symbol_token a.names.now a.n) (decimal a.arity))
    (put_append (put_append (put_append (put_append c.put_bytes-word.ensures c.put_symbol-name.ensures) c.put_byte-tab.ensures) c.put_number-number.ensures) c.put_byte.ensures)
