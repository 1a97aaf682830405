-- `listing_lines::row_line::row_line` meets its contract: the line of the row's words is the row's. Assumes nothing.
use Rattle.listing_lines.proofs.RowLaws.{kind_known, about_row, row_line_is}
use Rattle.listing_lines.proofs.row_line.row_line.Goals as goal

pub kind_of-requires : goal.kind_of-requires
kind_of-requires c = kind_known c.requires.row c.requires.row_is

pub set_of-requires : goal.set_of-requires
set_of-requires c = rw c.kind_of.ensures (about_row c.requires)

pub returns : goal.returns
returns c = λ w.
    rw (w.round_is, ← row_line_is w.p w.row _ _ _ _ _ _ w.row_is ((rw c.kind_of.ensures at c.set_of.ensures) (about_row w))) (rw c.kind_of.ensures at c.put_row.ensures)
