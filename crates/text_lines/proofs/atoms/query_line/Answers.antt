-- `text_lines::atoms::query_line` meets its contract. Assumes nothing.
use Prim.Native.Nat.{◌+◌}
use mathlib.Core.Path.{refl, sym, ap, ◌∙◌}
use mathlib.Core.List.{◌++◌}
use native.Mathlib.Omega.{arith}
use mathlib.Core.Bool.{true}
use borrow.Author.Tests.{lt-ltb}
use Rattle.std.specs.Prelude.{Err}
use Rattle.std.proofs.lemmas.Result.{err_from_is_err_and}
use Rattle.text.specs.Line.{behind, tab}
use Rattle.cells.specs.Cells.{no_cells, cells_of}
use Rattle.cells.specs.Room.{symbols_in}
use Rattle.cells.specs.TextSoFar.{nothing}
use Rattle.text_lines.proofs.AtomLines.{cells_fault, cells_done, lined_goal}
use Rattle.text_lines.proofs.atoms.query_line.Goals as goal

pub returns-in_err-p-clause-by_index : goal.returns-in_err-p-clause-by_index
returns-in_err-p-clause-by_index c = let a = c.args in
    let back = err_from_is_err_and c.from_residual.result c.from_residual.ensures.1 in
    λ ns ws h f. let e = cells_fault (nothing.lines ++ ws) c.read_cells.new.modes c.read_cells.new.words
    (cells_of (symbols_in a.c ns ws) true no_cells (a.line.now.place + a.from) (behind tab a.line.now.bytes.now a.from)) back.0
    (rw (c.in_err-p.was ∙ ap Err (sym back.2)) at (c.read_cells.ensures.by_index ns ws (nothing.lines ++ ws) h.kept h.word_room (omega (arith, h.place)) refl)) in
    rw (back.1, lt-ltb 0 a.c.predicates (omega arith), sym f, e) refl

pub returns-clause-by_index : goal.returns-clause-by_index
returns-clause-by_index c = let a = c.args in
    let p = c.in_ok-p.p in λ ns ws h f. let e = cells_done (nothing.lines ++ ws) c.read_cells.new.modes c.read_cells.new.words
    (cells_of (symbols_in a.c ns ws) true no_cells (a.line.now.place + a.from) (behind tab a.line.now.bytes.now a.from)) p
    (rw c.in_ok-p.was at (c.read_cells.ensures.by_index ns ws (nothing.lines ++ ws) h.kept h.word_room (omega (arith, h.place)) refl)) in
    rw (lt-ltb 0 a.c.predicates (omega arith), sym f)
    (lined_goal ns ws a.c a.symbols.now c.put_goal-count.new.words c.requires.0 h.kept _ p e.ms e.out e.is
    c.put_goal-count.result _ (c.put_goal-count.ensures ws e.ms e.out e.stands) refl)
