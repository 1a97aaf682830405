-- `lister::listing::listing` meets its contract: the lines are written one behind another. Assumes nothing.
use native.Mathlib.Omega.{arith}
use Rattle.text.proofs.Puts.{put_append, put_length}
use Rattle.lister.proofs.Tails.{put_end, put_rest, tail_put, tail_end}
use Rattle.lister.proofs.LineLaws.{spoken_of}
use Rattle.lister.proofs.listing.listing.Goals as goal

pub shape_lines-rows_at-requires : goal.shape_lines-rows_at-requires
shape_lines-rows_at-requires c = record { spoken = spoken_of c.requires; start_bound = put_end c.version_line-shapes_at.ensures (omega arith) }

pub row_lines-end-requires : goal.row_lines-end-requires
row_lines-end-requires c = let start = put_end c.version_line-shapes_at.ensures (omega arith) in
    record { tabled = c.requires.tabled; start_bound = put_end (c.shape_lines-rows_at.ensures (spoken_of c.requires)) start }

pub returns-then-out-end : goal.returns-then-out-end
returns-then-out-end c = λ w.
    rw (← w.tabled.many)
    (put_rest _ (put_append (put_append c.version_line-shapes_at.ensures (c.shape_lines-rows_at.ensures (spoken_of w))) (c.row_lines-end.ensures w.tabled)) (omega arith) c.if-out-end.true)

pub overflow_add-result : goal.overflow_add-result
overflow_add-result c = let w = c.requires in
    let p = put_append (put_append c.version_line-shapes_at.ensures (c.shape_lines-rows_at.ensures (spoken_of w))) (c.row_lines-end.ensures w.tabled) in
    omega (arith, put_length p, c.well_formed, tail_end c.row_lines-end.new.out _ c.row_lines-end.result _ c.if-out-end.false c.end_line.ensures)

pub returns : goal.returns
returns c = λ w.
    rw (← w.tabled.many)
    (put_append (put_append (put_append c.version_line-shapes_at.ensures (c.shape_lines-rows_at.ensures (spoken_of w))) (c.row_lines-end.ensures w.tabled))
    (tail_put c.row_lines-end.new.out _ c.row_lines-end.result _ c.if-out-end.false c.end_line.ensures))
