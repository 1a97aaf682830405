-- The rooms lent to the reader are always enough.
use Rattle.std.proofs.Common.{arith, refl, sym, length-take-le}
use Rattle.printing.proofs.ReadRooms.{accepted_left}
use Rattle.vectors.proofs.reading.print_reading.Goals as goal

pub slice_bounds-words-end : goal.slice_bounds-words-end
slice_bounds-words-end g c =
    let k = accepted_left c.args.text.now c.in-Ok.ensures refl in omega (arith, k.words_fit, c.read_scenario.auto.words)

pub slice_bounds-program-end : goal.slice_bounds-program-end
slice_bounds-program-end g c =
    let k = accepted_left c.args.text.now c.in-Ok.ensures refl in
    sym (length-take-le c.in-Ok.count c.read_scenario.new.words (omega (arith, k.words_fit, c.read_scenario.auto.words)))

pub bounds-program-0 : goal.bounds-program-0
bounds-program-0 g c =
    let k = accepted_left c.args.text.now c.in-Ok.ensures refl in
    omega (arith, k.counts_there, length-take-le c.in-Ok.count c.read_scenario.new.words (omega (arith, k.words_fit, c.read_scenario.auto.words)))

pub bounds-program-1 : goal.bounds-program-1
bounds-program-1 g c =
    let k = accepted_left c.args.text.now c.in-Ok.ensures refl in
    omega (arith, k.counts_there, length-take-le c.in-Ok.count c.read_scenario.new.words (omega (arith, k.words_fit, c.read_scenario.auto.words)))

pub slice_bounds-names-end : goal.slice_bounds-names-end
slice_bounds-names-end g c =
    let k = accepted_left c.args.text.now c.in-Ok.ensures refl in
    omega (arith, k.names_fit, c.from.ensures, c.from-in-Ok.ensures, c.read_scenario.auto.names)

pub slice_bounds-print_accepted-end : goal.slice_bounds-print_accepted-end
slice_bounds-print_accepted-end g c =
    let k = accepted_left c.args.text.now c.in-Ok.ensures refl in
    sym (length-take-le _ c.read_scenario.new.names (omega (arith, k.names_fit, c.from.ensures, c.from-in-Ok.ensures, c.read_scenario.auto.names)))
