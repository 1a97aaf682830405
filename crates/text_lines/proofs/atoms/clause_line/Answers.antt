-- `text_lines::atoms::clause_line` meets its contract. Assumes nothing.
use Prim.Native.Nat.{◌+◌}
use mathlib.Core.Path.{refl, sym, ap, ◌∙◌}
use mathlib.Core.List.{[], ◌∷◌, ◌++◌}
use native.Mathlib.Omega.{arith}
use mathlib.Core.Bool.{false}
use borrow.Author.Tests.{not-false}
use Rattle.std.specs.Prelude.{Err}
use Rattle.std.proofs.lemmas.Result.{err_from_is_err_and}
use Rattle.text.specs.Line.{behind, tab}
use Rattle.cells.specs.Cells.{no_cells, cells_of}
use Rattle.cells.specs.Room.{symbols_in}
use Rattle.cells.specs.TextSoFar.{nothing}
use Rattle.text_lines.proofs.AtomLines.{length_room, length_place, cells_fault, cells_done, lined_clause}
use Rattle.text_lines.proofs.atoms.clause_line.Goals as goal

pub returns-in_err-p-clause-by_index : goal.returns-in_err-p-clause-by_index
returns-in_err-p-clause-by_index c = let a = c.args in
    let back = err_from_is_err_and c.from_residual.result c.from_residual.ensures.1 in
    λ ns ws h f. let e = cells_fault ((nothing.lines ++ ws) ++ 0 ∷ []) c.read_cells.new.modes c.read_cells.new.words
    (cells_of (symbols_in a.c ns ws) false no_cells (a.line.now.place + a.from) (behind tab a.line.now.bytes.now a.from)) back.0
    (rw (c.in_err-p.was ∙ ap Err (sym back.2)) at (c.read_cells.ensures.by_index ns ws ((nothing.lines ++ ws) ++ 0 ∷ []) h.kept (c.put.ensures ∙ length_room ns ws a.c a.symbols.now a.words.now h) (length_place ns ws a.c a.symbols.now a.words.now h) refl)) in
    rw (back.1, sym c.is_open.ensures ∙ not-false _ c.if-not-is_open.false-raw, sym f, e) refl

pub returns-clause-by_index : goal.returns-clause-by_index
returns-clause-by_index c = let a = c.args in
    let p = c.in_ok-p.p in λ ns ws h f. let e = cells_done ((nothing.lines ++ ws) ++ 0 ∷ []) c.read_cells.new.modes c.read_cells.new.words
    (cells_of (symbols_in a.c ns ws) false no_cells (a.line.now.place + a.from) (behind tab a.line.now.bytes.now a.from)) p
    (rw c.in_ok-p.was at (c.read_cells.ensures.by_index ns ws ((nothing.lines ++ ws) ++ 0 ∷ []) h.kept (c.put.ensures ∙ length_room ns ws a.c a.symbols.now a.words.now h) (length_place ns ws a.c a.symbols.now a.words.now h) refl)) in
    rw (sym c.is_open.ensures ∙ not-false _ c.if-not-is_open.false-raw, sym f)
    (lined_clause ns ws a.c a.symbols.now a.words.now h _ p c.read_cells.new.modes c.read_cells.new.words e
    c.narrow.result c.put-2.new.items (c.narrow.ensures (omega (arith, e.stands.atom_count))) c.put-2.ensures)
