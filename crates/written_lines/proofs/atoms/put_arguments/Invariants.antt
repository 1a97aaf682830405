-- `written_lines::atoms::put_arguments` meets its contract. The loop's invariant: the cells so far are written, and so many terms are left. Assumes nothing.
use Prim.Native.Nat.{◌-◌}
use mathlib.Core.List.{map}
use lib.ListN.{length, take}
use Rattle.terms.specs.Cells.{encs, Run}
use Rattle.text.specs.Put.{Put}
use Rattle.written_lines.specs.Tokens.{argument_token, behind_tabs}
use Rattle.written_lines.proofs.CellWalk.{Left}
use Rattle.written_lines.proofs.atoms.put_arguments.Given as goal

abbrev pub invariant-loop-left : goal.invariant-loop-left
invariant-loop-left l = (a : Run l.symbols.functions.now l.cells l.count) → Left l.symbols.functions.now l.cells (encs a.terms) a.rest l.at l.left
    × Put (behind_tabs (map (argument_token l.symbols.names.now (length l.symbols.predicates.now) l.modes) (take l.at (encs a.terms)))) l.initial.out l.out l.from l.end

abbrev pub decreases-loop-left : goal.decreases-loop-left
decreases-loop-left l = length l.cells - l.at
