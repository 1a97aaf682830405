-- `written_lines::lines::put_declarations` meets its contract. The loop's invariant: the declarations so far are written. Assumes nothing.
use lib.ListN.{take}
use Rattle.text.specs.Put.{Put}
use Rattle.written_lines.specs.Lines.{declarations}
use Rattle.written_lines.proofs.lines.put_declarations.Given as goal

abbrev pub invariant-loop-i : goal.invariant-loop-i
invariant-loop-i l = Put (declarations l.keyword l.names l.first (take l.i l.arities)) l.initial.out l.out l.from l.end
