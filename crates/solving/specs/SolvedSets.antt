-- The set that rule 3 works with at one shape: the unions of marks that have their rows, and the marks that were passed.
use Rattle.std.specs.Prelude.{ℕ, ◌+◌, ◌≤◌, ◌<◌, ◌≡◌, Bool, true, ◌⊎◌, List}
use Rattle.terms.specs.Term.{Term, Occ}
use Rattle.terms.specs.Mask.{Has}
use Rattle.rows.specs.MaskSet.{InSet, Inserted}

-- "which keeps the call's own marks": the masks that join the set are unions of a call's own marks and those that pass, of the variables of S alone
abbrev pub PutFor : Term → List ℕ → List ℕ → Type 0
PutFor S set set' = (N : ℕ) → InSet set' N → InSet set N ⊎ ((v : ℕ) → Has N v → Occ v S)

-- the mark of variable 15, with which the set has marks that were passed to a shape of fewer variables
abbrev pub passed_mark : ℕ
passed_mark = 32768

-- nothing is in the set of the masks of the shape's variables, nor of the marks that were passed to it
abbrev pub NoneSolved : List ℕ → ℕ → Type 0
NoneSolved solved here = (N : ℕ) → N ≤ here → (InSet solved N → ⊥) × (here < passed_mark → InSet solved (passed_mark + N) → ⊥)

-- whether marks pass to a shape for the first time; where it has sixteen variables that is not asked
pub record FirstPassed (solved solved' : List ℕ) (here mask : ℕ) (first : Bool) : Type 0 where
  pub asked : here < passed_mark → mask < passed_mark → Inserted solved solved' (passed_mark + mask) first
  pub not_asked : passed_mark ≤ here → (first ≡ true) × (solved' ≡ solved)
