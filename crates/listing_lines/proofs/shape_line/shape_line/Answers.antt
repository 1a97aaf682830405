-- `listing_lines::shape_line::shape_line` meets its contract: the shape's cells stand in the directory. Assumes nothing.
use native.Mathlib.Omega.{arith}
use Rattle.text.proofs.Puts.{put_append}
use Rattle.listing_lines.proofs.ShapeCells.{shape_few, shape_from, shape_named, shape_put}
use Rattle.listing_lines.proofs.shape_line.shape_line.Goals as goal

pub overflow_add-s : goal.overflow_add-s
overflow_add-s c = omega (arith, shape_few c.requires)

pub offset_bounds-program-s : goal.offset_bounds-program-s
offset_bounds-program-s c = omega (arith, shape_few c.requires)

pub bounds-program-s : goal.bounds-program-s
bounds-program-s c = omega (arith, shape_few c.requires)

pub invariant_of-symbols : goal.invariant_of-symbols
invariant_of-symbols c = let named = shape_named c.requires _ _ _ c.from-at.ensures c.from-functions.ensures c.from-clauses.ensures in
    record { few = named.few; size = named.size }

pub put_atom-cells-requires : goal.put_atom-cells-requires
put_atom-cells-requires c = shape_from c.requires _ _ _ c.from-at.ensures c.from-functions.ensures c.from-clauses.ensures

pub returns : goal.returns
returns c = λ w.
    let a = shape_from w _ _ _ c.from-at.ensures c.from-functions.ensures c.from-clauses.ensures in
    let put = shape_put w _ _ _ c.from-at.ensures c.from-functions.ensures c.from-clauses.ensures (c.put_atom-cells.ensures a) in
    put_append (put_append (put_append c.put_bytes-number_at.ensures c.put_wide-end.ensures) put) c.put_byte.ensures
