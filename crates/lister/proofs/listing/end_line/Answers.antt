-- `lister::listing::end_line` meets its contract: the fields are written one behind another. Assumes nothing.
use mathlib.Core.List.{append-nil}
use Rattle.text.specs.Decimal.{decimal}
use Rattle.text.proofs.Puts.{put_append}
use Rattle.lister.proofs.listing.end_line.Goals as goal

pub returns : goal.returns
returns c = rw (append-nil (decimal c.args.rows)) (put_append (put_append c.put_bytes-number_at.ensures c.put_wide-number_end.ensures) c.put_byte.ensures)
