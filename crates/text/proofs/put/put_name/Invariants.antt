-- `text::put::put_name` meets its contract. The loop's invariant: the bytes so far are no zeros, and are written. Assumes nothing.
use lib.ListN.{take}
use Rattle.text.specs.Put.{Put}
use Rattle.text.proofs.Cuts.{Passed}
use Rattle.text.proofs.put.put_name.Given as goal

abbrev pub invariant-loop-b : goal.invariant-loop-b
invariant-loop-b l = Passed 0 l.b-items l.b-index × Put (take l.b-index l.b-items) l.initial.out l.out l.at l.end
