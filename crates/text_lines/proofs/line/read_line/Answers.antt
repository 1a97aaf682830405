-- `text_lines::line::read_line` meets its contract: each kind is the definition's. Assumes nothing.
use mathlib.Core.Path.{sym, ◌∙◌}
use native.Mathlib.Omega.{arith}
use Rattle.declarations.specs.Held.{text_so_far}
use Rattle.text_lines.proofs.LineKinds.{first_within, pred_length, func_length, clause_length, query_length, line_pred, line_func, line_clause, line_query, line_other}
use Rattle.text_lines.proofs.line.read_line.Goals as goal

pub slice_bounds-kind_of-end : goal.slice_bounds-kind_of-end
slice_bounds-kind_of-end c = first_within c.args.line.now.bytes.now c.find-end.result c.find-end.ensures

pub pred_line-requires : goal.pred_line-requires
pred_line-requires c = let a = c.args in
    let w = first_within a.line.now.bytes.now c.find-end.result c.find-end.ensures in
    let n = pred_length a.line.now.bytes.now c.find-end.result c.find-end.ensures (sym c.kind_of.ensures ∙ c.in-Pred.is) in
    (c.requires.0, omega arith, omega (arith, c.requires.1))

pub func_line-requires : goal.func_line-requires
func_line-requires c = let a = c.args in
    let w = first_within a.line.now.bytes.now c.find-end.result c.find-end.ensures in
    let n = func_length a.line.now.bytes.now c.find-end.result c.find-end.ensures (sym c.kind_of.ensures ∙ c.in-Func.is) in
    (c.requires.0, omega arith, omega (arith, c.requires.1))

pub returns-in-Pred-clause-by_index : goal.returns-in-Pred-clause-by_index
returns-in-Pred-clause-by_index c = let a = c.args in λ ns ws h. rw (line_pred a.line.now.bytes.now c.find-end.result c.find-end.ensures (text_so_far a.c ns ws) a.line.now.place (sym c.kind_of.ensures ∙ c.in-Pred.is)) (c.pred_line.ensures.by_index ns ws h)

pub returns-in-Func-clause-by_index : goal.returns-in-Func-clause-by_index
returns-in-Func-clause-by_index c = let a = c.args in λ ns ws h. rw (line_func a.line.now.bytes.now c.find-end.result c.find-end.ensures (text_so_far a.c ns ws) a.line.now.place (sym c.kind_of.ensures ∙ c.in-Func.is)) (c.func_line.ensures.by_index ns ws h)

pub returns-in-Clause-clause-by_index : goal.returns-in-Clause-clause-by_index
returns-in-Clause-clause-by_index c = let a = c.args in λ ns ws h. rw (line_clause a.line.now.bytes.now c.find-end.result c.find-end.ensures (text_so_far a.c ns ws) a.line.now.place (sym c.kind_of.ensures ∙ c.in-Clause.is)) (c.clause_line.ensures.by_index ns ws h (clause_length a.line.now.bytes.now c.find-end.result c.find-end.ensures (sym c.kind_of.ensures ∙ c.in-Clause.is)))

pub returns-in-Query-clause-by_index : goal.returns-in-Query-clause-by_index
returns-in-Query-clause-by_index c = let a = c.args in λ ns ws h. rw (line_query a.line.now.bytes.now c.find-end.result c.find-end.ensures (text_so_far a.c ns ws) a.line.now.place (sym c.kind_of.ensures ∙ c.in-Query.is)) (c.query_line.ensures.by_index ns ws h (query_length a.line.now.bytes.now c.find-end.result c.find-end.ensures (sym c.kind_of.ensures ∙ c.in-Query.is)))

pub returns-in-Other-clause-by_index : goal.returns-in-Other-clause-by_index
returns-in-Other-clause-by_index c = let a = c.args in
    λ ns ws h. rw (line_other a.line.now.bytes.now c.find-end.result c.find-end.ensures (text_so_far a.c ns ws) a.line.now.place (sym c.kind_of.ensures ∙ c.in-Other.is))
