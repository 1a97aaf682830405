-- `text::put::put_name` meets its contract. The loop's invariant: the bytes so far are no zeros, and are written. Assumes nothing.
use native.Mathlib.Omega.{arith}
use native.Mathlib.Numerals.{add-one}
use lib.Seq.{take-suc}
use Rattle.text.proofs.Cuts.{passed_here, passed_more, passed_all}
use Rattle.text.proofs.Puts.{put_append}
use Rattle.text.proofs.put.put_name.Goals as goal

pub returns-then-b-eq0 : goal.returns-then-b-eq0
returns-then-b-eq0 c = let name = c.name_at-b-items.result.now in
    rw (← c.name_at-b-items.ensures, passed_here 0 name c.loop-b.b-index c.loop-b.invariant.0 c.loop-b-test.true c.if-b-eq0.true) c.loop-b.invariant.1

pub loop-b-preserved : goal.loop-b-preserved
loop-b-preserved c = let name = c.name_at-b-items.result.now in
    (rw add-one (passed_more 0 name c.loop-b.b-index c.loop-b.invariant.0 c.loop-b-test.true c.if-b-eq0.false), rw (add-one, take-suc name c.loop-b.b-index 0 c.loop-b-test.true) (put_append c.loop-b.invariant.1 c.put_byte-end.ensures))

pub returns : goal.returns
returns c = let name = c.name_at-b-items.result.now in
    rw (← c.name_at-b-items.ensures, passed_all 0 name c.loop-b.b-index c.loop-b.invariant.0 (omega arith)) c.loop-b.invariant.1
