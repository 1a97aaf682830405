-- `declarations::declaration::add_declared` meets its contract. Assumes nothing.
use Prim.Native.Nat.{◌+◌}
use mathlib.Core.Path.{sym, ap, ◌∙◌}
use native.Mathlib.Omega.{arith}
use lib.ListN.{length}
use Rattle.std.specs.Prelude.{Err}
use Rattle.std.proofs.lemmas.Result.{err_from_is_err_and}
use Rattle.program.specs.Lists.{between}
use Rattle.cells.specs.TextSoFar.{reading_of}
use Rattle.declarations.specs.Declarations.{declaring, symbol_of}
use Rattle.declarations.proofs.Symbols.{symbol_of_kept}
use Rattle.declarations.proofs.DeclaredLines.{lined_symbol, lined_fault}
use Rattle.declarations.proofs.declaration.add_declared.Goals as goal

pub returns-in_err-arity-clause-by_index : goal.returns-in_err-arity-clause-by_index
returns-in_err-arity-clause-by_index c = let a = c.args in
    let line = a.line.now.bytes.now in
    let name = between line (declaring + 1) a.middle in
    let arity = between line (a.middle + 1) (length line) in
    let back = err_from_is_err_and c.from_residual.result c.from_residual.ensures.1 in
    λ ns ws section h none grown first more. rw back.1 (lined_fault ns ws a.c section a.symbols.now a.words.now name (symbol_of ns a.first a.count (a.line.now.place + declaring) name arity) back.0
    (sym (symbol_of_kept ns ws a.c a.symbols.now c.requires.0 h.kept a.first a.count (a.line.now.place + declaring) name arity first)
    ∙ sym (c.symbol_of.ensures (λ k l m. h.kept.hashed k (omega arith) (omega arith))) ∙ ap reading_of (c.in_err-arity.was ∙ ap Err (sym back.2))))

pub returns-clause-by_index : goal.returns-clause-by_index
returns-clause-by_index c = let a = c.args in
    let line = a.line.now.bytes.now in
    let name = between line (declaring + 1) a.middle in
    let arity = between line (a.middle + 1) (length line) in λ ns ws section h none grown first more. lined_symbol ns ws a.c a.next a.symbols.now a.words.now
    c.add_symbol.new.symbols c.add_symbol.new.words
    name (a.first + a.count) c.requires.0 h first more c.requires.3 none section grown c.requires.5
    (symbol_of ns a.first a.count (a.line.now.place + declaring) name arity) c.in_ok-arity.arity
    (sym (symbol_of_kept ns ws a.c a.symbols.now c.requires.0 h.kept a.first a.count (a.line.now.place + declaring) name arity first)
    ∙ sym (c.symbol_of.ensures (λ k l m. h.kept.hashed k (omega arith) (omega arith))) ∙ ap reading_of c.in_ok-arity.was)
    c.add_symbol.ensures
