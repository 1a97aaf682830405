-- `resolve` meets its contract: the cells from the place on, cut where the term ends.
use Rattle.std.proofs.Common.{arith}
use Rattle.terms.proofs.Places.{run_length}
use Rattle.terms.proofs.Steps.{run_cell}
use Rattle.terms.proofs.unifier.Atoms.resolve.Goals as goal

pub cells_from-run-requires : goal.cells_from-run-requires
cells_from-run-requires c = run_cell c.args.self.now.functions.now _ 1 (λ e. omega arith) c.requires.0

pub slice_bounds-result-end : goal.slice_bounds-result-end
slice_bounds-result-end c = rw c.terms_end.ensures (run_length c.args.self.now.functions.now c.cells_from-run.result.now (rw c.cells_from-run.ensures c.requires.0))
