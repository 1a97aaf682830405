-- `printing::print::print` meets its contract: the rooms lent to the reader are always enough, and what it leaves there is the text's program with its names. Assumes nothing.
use mathlib.Core.Path.{refl, sym}
use native.Mathlib.Omega.{arith}
use lib.Seq.{length-take-le}
use Rattle.program.proofs.Checks.{numbered}
use Rattle.printing.specs.Printed.{unread, read}
use Rattle.printing.proofs.ReadRooms.{refused_unread, accepted_left}
use Rattle.printing.proofs.print.print.Goals as goal

pub bounds-program-0 : goal.bounds-program-0
bounds-program-0 c = let k = accepted_left c.args.text.now c.in-Ok.ensures refl in
    omega (arith, k.counts_there, length-take-le c.in-Ok.count c.read_scenario.new.words (omega (arith, k.words_fit, c.read_scenario.auto.words)))

pub bounds-program-1 : goal.bounds-program-1
bounds-program-1 c = let k = accepted_left c.args.text.now c.in-Ok.ensures refl in
    omega (arith, k.counts_there, length-take-le c.in-Ok.count c.read_scenario.new.words (omega (arith, k.words_fit, c.read_scenario.auto.words)))

pub slice_bounds-names-end : goal.slice_bounds-names-end
slice_bounds-names-end c = let k = accepted_left c.args.text.now c.in-Ok.ensures refl in
    omega (arith, k.names_fit, c.from.ensures, c.from-in-Ok.ensures, c.read_scenario.auto.names)

pub slice_bounds-print_listing-end : goal.slice_bounds-print_listing-end
slice_bounds-print_listing-end c = let k = accepted_left c.args.text.now c.in-Ok.ensures refl in
    sym (length-take-le _ c.read_scenario.new.names (omega (arith, k.names_fit, c.from.ensures, c.from-in-Ok.ensures, c.read_scenario.auto.names)))

pub returns-in-Ok : goal.returns-in-Ok
returns-in-Ok c = let k = accepted_left c.args.text.now c.in-Ok.ensures refl in
    let p = c.print_listing.ensures in
    (p.0, read k.scenario k.read (rw (c.from.ensures, c.from-in-Ok.ensures, k.names_left, k.words_left) at p.1))

pub returns-in-Err : goal.returns-in-Err
returns-in-Err c = (c.refuse.ensures.0, unread _ _ (refused_unread c.args.text.now c.in-Err.ensures (λ z. omega (arith, numbered c.in-Err.fault.refusal))) c.refuse.ensures.1)
