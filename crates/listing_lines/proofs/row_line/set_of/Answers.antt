-- `listing_lines::row_line::set_of` meets its contract: the list of the row's place stands in the directory; the variables of its shape are the first ones. Assumes nothing.
use native.Mathlib.Omega.{arith}
use mathlib.Core.Path.{ap}
use Rattle.program.specs.Kinds.{word_of}
use Rattle.listing_lines.proofs.RowLaws.{every_word, clause_there, list_there, first_there, shape_few, no_cont}
use Rattle.listing_lines.proofs.row_line.set_of.Goals as goal

pub bounds-dir-about : goal.bounds-dir-about
bounds-dir-about c = omega (arith, c.from-about.ensures, clause_there c.requires (ap word_of c.in-Cont.is), every_word c.requires)

pub bounds-dir-first : goal.bounds-dir-first
bounds-dir-first c = (list_there c.requires (ap word_of c.in-Cont.is) _ _ _ c.from-about.ensures c.from-first.ensures c.from.ensures).0

pub returns-in-Cont : goal.returns-in-Cont
returns-in-Cont c = λ w. (list_there w (ap word_of c.in-Cont.is) _ _ _ c.from-about.ensures c.from-first.ensures c.from.ensures).1

pub bounds-dir-about-in-Call : goal.bounds-dir-about-in-Call
bounds-dir-about-in-Call c = omega (arith, c.from-about.ensures, shape_few c.requires (no_cont _ c.in-Call.is), every_word c.requires)

pub returns-in-Call : goal.returns-in-Call
returns-in-Call c = λ w. (first_there w (no_cont _ c.in-Call.is) _ _ c.from-about.ensures c.from-in-Call.ensures).1 _ c.first_variables.ensures.1
