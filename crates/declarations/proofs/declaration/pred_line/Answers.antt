-- `declarations::declaration::pred_line` meets its contract: each test is the definition's. Assumes nothing.
use mathlib.Core.Path.{refl, sym, ap, ◌∙◌}
use native.Mathlib.Omega.{arith}
use borrow.Author.Tests.{eq-eqb, lt-ltb}
use Rattle.std.specs.Prelude.{Err}
use Rattle.std.proofs.lemmas.Result.{err_from_is_err_and}
use Rattle.text.specs.Line.{behind, tab}
use Rattle.declarations.specs.Declarations.{declaring}
use Rattle.cells.specs.TextSoFar.{pred_section}
use Rattle.declarations.specs.Held.{text_so_far}
use Rattle.cells.proofs.Readings.{present, missing}
use Rattle.declarations.proofs.DeclaredLines.{declaration_wrong, lined_wrong}
use Rattle.declarations.proofs.declaration.pred_line.Goals as goal

pub returns-in_err-middle-clause-by_index : goal.returns-in_err-middle-clause-by_index
returns-in_err-middle-clause-by_index c = let a = c.args in
    let back = err_from_is_err_and c.from_residual.result c.from_residual.ensures.1 in
    let none = missing c.two_fields.result _ back.0 (sym c.ok_or.ensures.value ∙ c.in_err-middle.was ∙ ap Err (sym back.2)) in
    let f = rw none.0 at c.two_fields.ensures in
    λ ns ws h. lined_wrong a.symbols.now a.words.now _ c.from_residual.result (rw (back.1, none.1)) (declaration_wrong (text_so_far a.c ns ws) pred_section 0 a.line.now.place (behind tab a.line.now.bytes.now declaring) f)

pub returns-clause-by_index : goal.returns-clause-by_index
returns-clause-by_index c = let f = rw (present c.two_fields.result _ c.in_ok-middle.middle (sym c.ok_or.ensures.value ∙ c.in_ok-middle.was)) at c.two_fields.ensures in λ ns ws h. rw (f.2, eq-eqb _ _ c.if-c-ne0.false, lt-ltb _ _ c.if-c-ge-MAX_DECLARED.false) (c.add_declared.ensures.by_index ns ws pred_section h (omega arith) refl (omega arith) (omega arith))
