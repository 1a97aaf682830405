-- `lister::listing::row_lines` meets its contract: the closure writes each row's line. Assumes nothing.
use native.Mathlib.Omega.{arith}
use lib.Seq.{take_all}
use Rattle.std.proofs.Common.{rules}
use Rattle.lister.proofs.LineLaws.{row_text, rows_joined}
use Rattle.lister.proofs.EachLine.{each_row}
use Rattle.lister.proofs.listing.row_lines.Goals as goal

pub put_lines-requires-clause-writes : goal.put_lines-requires-clause-writes
put_lines-requires-clause-writes c = let w = c.requires.tabled in
    (row_text w.p w.entries, each_row w (λ i tail row. search rules) (λ i tail after r called. search (rules, called)))

pub returns : goal.returns
returns c = λ w.
    let put = c.put_lines.ensures (row_text w.p w.entries) (each_row w (λ i tail row. search rules) (λ i tail after r called. search (rules, called))) in
    rw (← take_all c.args.rows w.entries (omega (arith, w.many)), ← rows_joined w.p w.entries c.args.rows (omega (arith, w.many))) put
