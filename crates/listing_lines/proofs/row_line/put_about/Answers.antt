-- `listing_lines::row_line::put_about` meets its contract: a place is written behind its clause, and behind a shape nothing. Assumes nothing.
use Rattle.text.proofs.Puts.{put_append}
use Rattle.listing_lines.proofs.row_line.put_about.Goals as goal

pub returns-in-Cont : goal.returns-in-Cont
returns-in-Cont c = rw c.in-Cont.is (put_append c.put_number-end.ensures (put_append c.put_byte-behind.ensures c.put_number.ensures))
