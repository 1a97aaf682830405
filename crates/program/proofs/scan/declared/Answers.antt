-- `declared` meets its contract: the parts of the words that are lent are the arities that the definition hands out.
-- Assumes nothing.
use Rattle.program.proofs.ArityParts.{arities_read, declared_written}
use Rattle.program.proofs.scan.declared.Goals as goal

pub until-requires-clause-later : goal.until-requires-clause-later
until-requires-clause-later c = (arities_read c.args.predicates c.args.from c.in_ok-middle.middle c.in_ok-middle.ensures).later

pub until-requires-2-clause-later : goal.until-requires-2-clause-later
until-requires-2-clause-later c = (arities_read c.args.functions c.in_ok-middle.middle c.in_ok-end.end c.in_ok-end.ensures).later

pub returns : goal.returns
returns c = let a = c.args in
    let middle = c.in_ok-middle.middle in
    let end = c.in_ok-end.end in
    declared_written a.predicates a.functions a.clauses a.from middle end
    (arities_read a.predicates a.from middle c.in_ok-middle.ensures)
    (arities_read a.functions middle end c.in_ok-end.ensures)
    c.written.result (rw (c.until.ensures, c.until-2.ensures) at c.written.ensures)
