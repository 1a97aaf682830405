-- Marks passed on the sets that unification leaves.
use Rattle.std.specs.Prelude.{ℕ, ◌+◌, ◌^◌, ◌<◌, List, ◌⊎◌, get_or}
use Rattle.terms.specs.Term.{Term, Subst, Occ}
use Rattle.terms.specs.Cells.{variables}
use Rattle.terms.specs.Mask.{Has, Marks}

-- the 16-bit mask of an atom's variables
pub record VariablesOf (A : Term) (P : ℕ) : Type 0 where
  pub small : P < 2 ^ variables
  pub marked : Marks (λ v. Occ v A) P

-- an atom's sets begin at `base`: the set at base + v has the variables of what its variable v stands for
pub record StandAt (σ : Subst) (sets : List ℕ) (base : ℕ) : Type 0 where
  pub stands : (v : ℕ) → v < variables → Marks (λ z. Occ z (σ v)) (get_or sets (base + v) 0)

-- "a variable is known ground if it occurs in what some marked variable of A stands for": A's sets begin at `from`, P has its variables
abbrev pub KnownIn : List ℕ → ℕ → ℕ → ℕ → ℕ → Type 0
KnownIn sets from M P z = (x : ℕ) × Has M x × Has P x × Has (get_or sets (from + x) 0) z

-- "if all variables in what it stands for are known ground. None at all counts as all."
abbrev pub AllKnownIn : List ℕ → ℕ → ℕ → ℕ → ℕ → ℕ → Type 0
AllKnownIn sets from M P to y = (z : ℕ) → Has (get_or sets (to + y) 0) z → KnownIn sets from M P z

-- "a variable of B is marked in the result if N marks it, or if all variables ..": B's sets begin at `to`, Q has its variables
abbrev pub MarkedIn : List ℕ → ℕ → ℕ → ℕ → ℕ → ℕ → ℕ → ℕ → Type 0
MarkedIn sets from M P to N Q y = Has N y ⊎ (Has Q y × AllKnownIn sets from M P to y)
