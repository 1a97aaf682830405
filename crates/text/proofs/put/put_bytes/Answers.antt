-- `text::put::put_bytes` meets its contract. The loop's invariant: the bytes so far are written. Assumes nothing.
use native.Mathlib.Numerals.{add-one}
use lib.Seq.{take-suc}
use Rattle.text.proofs.Puts.{put_append}
use Rattle.text.proofs.put.put_bytes.Goals as goal

pub loop-b-preserved : goal.loop-b-preserved
loop-b-preserved c = rw (add-one, take-suc c.args.s.now c.loop-b.b-index 0 c.loop-b-test.true) (put_append c.loop-b.invariant c.put_byte-end.ensures)
