-- The mask of an atom's variables: it fits 16 bits, and it is what a walk over the atom's arguments finds.
use Prim.Native.Nat.{ℕ, suc, ◌^◌, ◌<◌}
use native.Mathlib.Omega.{arith}
use mathlib.Core.Logic.{inl, inr}
use mathlib.Core.List.{[], List, ◌∷◌}
use Rattle.terms.specs.Term.{Terms, app}
use Rattle.terms.specs.Cells.{variables, encs, Keepss}
use Rattle.terms.specs.Walk.{InRun, Cells, Present}
use Rattle.terms.proofs.Masks.{marks_below, marks_for}
use Rattle.terms.proofs.RunVariables.{in_run_occs}
use Rattle.marks.specs.Passing.{VariablesOf}

-- "v is at most 15"
pub in_run_small : (cells : List ℕ) (v : ℕ) → Cells cells → InRun v cells → v < variables
in_run_small [] v small x'' = elim x'' [ ]
in_run_small (c ∷ cs) v small (inl e) = let l = small 0 (omega arith) in omega arith
in_run_small (c ∷ cs) v small (inr o) = in_run_small cs v (λ i l. small (suc i) (omega arith)) o

pub present_small : (cells : List ℕ) (P : ℕ) → Cells cells → Present cells P → P < 2 ^ variables
present_small cells P small p = marks_below variables P (λ v h. in_run_small cells v small ((p v).0 h))

-- the walk over an atom's arguments finds the atom's variables
pub present_variables : (functions : List ℕ) (predicate : ℕ) (arguments : Terms) (P : ℕ) → Keepss functions arguments → P < 2 ^ variables
    → Present (encs arguments) P → VariablesOf (app predicate arguments) P
present_variables functions predicate arguments P keeps small p =
    record { small = small; marked = marks_for P (λ v. in_run_occs functions v arguments keeps) p }
