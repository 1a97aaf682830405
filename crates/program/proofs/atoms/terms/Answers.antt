-- `terms` meets its contract: a fault of a cell is the fault of all, and past a cell the answer is that for the terms left.
-- Assumes nothing.
use Rattle.std.proofs.lemmas.Result.{err_from_is_err_and}
use Rattle.program.proofs.Taking.{terms_fault, terms_next, terms_done}
use Rattle.program.proofs.atoms.terms.Goals as goal

pub returns-in_err-opened : goal.returns-in_err-opened
returns-in_err-opened c = let a = c.args in
    let l = c.loop-left in
    let p = err_from_is_err_and c.from_residual.result c.from_residual.ensures.1 in
    rw (p.1, p.2)
    (terms_fault a.from.words.now a.functions.now a.from a.asked a.seen l.at l.left l.taken l.known c.loop-left-test.true l.invariant _ c.in_err-opened.ensures)

pub loop-left-preserved : goal.loop-left-preserved
loop-left-preserved c = let a = c.args in
    let l = c.loop-left in
    rw c.from.ensures
    (terms_next a.from.words.now a.functions.now a.from a.asked a.seen l.at l.left l.taken l.known c.loop-left-test.true l.invariant c.in_ok-opened.opened c.in_ok-opened.next (λ i. (c.type_inv.functions i).fits) c.in_ok-opened.ensures).0

pub returns : goal.returns
returns c = let a = c.args in
    let l = c.loop-left in
    terms_done a.from.words.now a.functions.now a.from a.asked a.seen l.at l.left l.taken l.known c.loop-left-test.false l.invariant
