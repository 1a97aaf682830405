-- `lister::listing::shape_lines` meets its contract: the closure writes each shape's line. Assumes nothing.
use mathlib.Core.Path.{◌∙◌}
use native.Mathlib.Omega.{arith}
use lib.ListN.{length}
use lib.Seq.{take_all}
use Rattle.std.proofs.Common.{rules}
use Rattle.program.specs.Shapes.{shapes}
use Rattle.lister.proofs.LineLaws.{shape_text, shapes_joined}
use Rattle.lister.proofs.EachLine.{each_shape}
use Rattle.lister.proofs.listing.shape_lines.Goals as goal

pub put_lines-requires-clause-writes : goal.put_lines-requires-clause-writes
put_lines-requires-clause-writes c = let w = c.requires.spoken in
    (shape_text c.args.names.now (length w.p.predicates) (shapes w.p), each_shape {words = c.args.program.now.words.now} {dir = c.args.program.now.dir.now} {names = c.args.names.now} w _ c.from-count.ensures (λ i tail shape. search rules) (λ i tail after r called. search (rules, called)))

pub returns : goal.returns
returns c = λ w.
    let many = c.from-count.ensures ∙ w.setting.directory.shape_count_law in
    let put = c.put_lines.ensures (shape_text c.args.names.now (length w.p.predicates) (shapes w.p)) (each_shape {words = c.args.program.now.words.now} {dir = c.args.program.now.dir.now} {names = c.args.names.now} w _ c.from-count.ensures (λ i tail shape. search rules) (λ i tail after r called. search (rules, called))) in
    rw (← take_all c.from-count.result (shapes w.p) (omega (arith, many)), ← shapes_joined c.args.names.now (length w.p.predicates) (shapes w.p) c.from-count.result (omega (arith, many))) put
