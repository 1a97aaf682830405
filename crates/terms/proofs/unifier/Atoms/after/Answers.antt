-- `after` meets its contract: a variable's cell is a term by itself, and else the run's length is where the term ends. Assumes nothing.
use Prim.Native.Nat.{ℕ, ◌+◌}
use mathlib.Core.Path.{ap, sym, ◌∙◌}
use native.Mathlib.Omega.{arith}
use lib.ListN.{length}
use Rattle.terms.proofs.Steps.{run_cell}
use Rattle.terms.proofs.Places.{run_length}
use Rattle.terms.proofs.unifier.Atoms.after.Goals as goal

pub cell_at-requires : goal.cell_at-requires
cell_at-requires c = run_cell c.args.self.now.functions.now _ 1 (λ e. omega arith) c.requires.0

pub returns : goal.returns
returns c = ap (λ (n : ℕ). c.args.place + n) (ap length c.resolve.ensures ∙ sym (run_length c.args.self.now.functions.now _ c.requires.0))
