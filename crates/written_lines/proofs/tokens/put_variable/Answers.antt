-- `written_lines::tokens::put_variable` meets its contract: a tab, the sign, and then the number. Assumes nothing.
use Rattle.text.proofs.Puts.{put_append}
use Rattle.written_lines.proofs.tokens.put_variable.Goals as goal

pub returns : goal.returns
returns c = rw (← c.sign_of.ensures) (put_append (put_append c.put_byte-from.ensures c.put_byte-behind.ensures) c.put_number.ensures)
