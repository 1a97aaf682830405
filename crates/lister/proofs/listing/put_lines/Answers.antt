-- `lister::listing::put_lines` meets its contract. The loop's invariant: the first i lines are written. Assumes nothing.
use native.Mathlib.Omega.{arith}
use native.Mathlib.Numerals.{add-one}
use Rattle.text.proofs.Puts.{put_append, put_length}
use Rattle.lister.proofs.Tails.{put_rest, tail_put, tail_end, joined_rest}
use Rattle.lister.proofs.listing.put_lines.Goals as goal

pub returns-then-out-end : goal.returns-then-out-end
returns-then-out-end g c = λ texts w.
    let (rest, e) = joined_rest texts c.loop-i.i c.args.count (omega arith) in
    rw e (put_rest rest (c.loop-i.invariant texts w) c.requires.start_bound c.if-out-end.true)

pub overflow_add-end : goal.overflow_add-end
overflow_add-end g c = let (texts, w) = c.requires.writes in
    omega (arith, put_length (c.loop-i.invariant texts w), c.well_formed, tail_end c.loop-i.out _ c.loop-i.end _ c.if-out-end.false (w.writes c.loop-i.i _ _ _ c.loop-i-test.true c.put_line-end.ensures))

pub loop-i-preserved : goal.loop-i-preserved
loop-i-preserved g c = λ texts w.
    rw add-one (put_append (c.loop-i.invariant texts w) (tail_put c.loop-i.out _ c.loop-i.end _ c.if-out-end.false (w.writes c.loop-i.i _ _ _ c.loop-i-test.true c.put_line-end.ensures)))
