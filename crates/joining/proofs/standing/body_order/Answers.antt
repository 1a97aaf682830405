-- `body_order` meets its contract: the words have the run of the atom where the directory says. Assumes nothing.
use Rattle.steps.proofs.BodyAtoms.{number_below}
use Rattle.joining.proofs.BodyRuns.{body_run}
use Rattle.joining.proofs.standing.body_order.Goals as goal

pub body_span-atom-requires : goal.body_span-atom-requires
body_span-atom-requires c = (number_below c.requires.setting c.requires.body, c.requires.setting.directory.size)

pub slice_bounds-order_of-end : goal.slice_bounds-order_of-end
slice_bounds-order_of-end c = (body_run c.requires c.body_span-atom.ensures.there.0 c.body_span-atom.ensures.there.1).1

pub order_of-requires : goal.order_of-requires
order_of-requires c = record { A = c.requires.body.A; atom_run = (body_run c.requires c.body_span-atom.ensures.there.0 c.body_span-atom.ensures.there.1).0 }

pub returns : goal.returns
returns c = λ w. c.order_of.ensures.1 w.body.A (body_run w c.body_span-atom.ensures.there.0 c.body_span-atom.ensures.there.1).0
