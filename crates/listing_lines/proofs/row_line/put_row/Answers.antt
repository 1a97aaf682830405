-- `listing_lines::row_line::put_row` meets its contract: the fields are written one behind another. Assumes nothing.
use Rattle.text.proofs.Puts.{put_append}
use Rattle.listing_lines.proofs.RowLaws.{three_fields}
use Rattle.listing_lines.proofs.row_line.put_row.Goals as goal

pub returns : goal.returns
returns c = rw (← three_fields _ _ _ _)
    (put_append c.put_kind-kind_end.ensures
    (put_append c.put_byte-round_at.ensures
    (put_append c.put_number-round_end.ensures
    (put_append c.put_byte-about_at.ensures
    (put_append c.put_about-about_end.ensures
    (put_append c.put_byte-letters_at.ensures
    (put_append c.put_letters-letters_end.ensures c.put_byte.ensures)))))))
