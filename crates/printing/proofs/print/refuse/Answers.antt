-- `printing::print::refuse` meets its contract: the five parts one behind another are the line, which has room. Assumes nothing.
use Rattle.printing.proofs.RefusedLines.{line_put}
use Rattle.printing.proofs.print.refuse.Goals as goal

pub returns : goal.returns
returns c = rw c.from-reply.ensures at (line_put c.from-reply.result.number c.from-reply.result.place c.requires
    c.put_bytes-number_at.ensures
    c.put_number-number_end.ensures
    c.put_byte-place_at.ensures
    c.put_wide-place_end.ensures
    c.put_byte.ensures)
