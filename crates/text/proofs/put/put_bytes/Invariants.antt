-- `text::put::put_bytes` meets its contract. The loop's invariant: the bytes so far are written. Assumes nothing.
use lib.ListN.{take}
use Rattle.text.specs.Put.{Put}
use Rattle.text.proofs.put.put_bytes.Given as goal

abbrev pub invariant-loop-b : goal.invariant-loop-b
invariant-loop-b l = Put (take l.b-index l.s) l.initial.out l.out l.at l.end
