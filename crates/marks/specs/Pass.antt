-- Marks passed through a most general unifier.
use Rattle.std.specs.Prelude.{ℕ, ◌⊎◌}
use Rattle.terms.specs.Term.{Term, Subst, Occ, All}
use Rattle.terms.specs.Unifier.{MostGeneral}
use Rattle.terms.specs.Mask.{Has, Marks}

-- "a variable is known ground if it occurs in what some marked variable of A stands for"
abbrev pub Known : Term → ℕ → Subst → ℕ → Type 0
Known A M α z = (x : ℕ) × Occ x A × Has M x × Occ z (α x)

-- "a variable of B is marked in the result if N marks it, or if all variables in what it stands for are known ground. None at all counts as all."
abbrev pub Marked : Term → ℕ → Term → ℕ → Subst → Subst → ℕ → Type 0
Marked A M B N α β y = Has N y ⊎ (Occ y B × All (Known A M α) (β y))

-- "Marks pass from atom A (mask M) to atom B (mask N) through their most general unifier": R is the result
pub record Pass (A : Term) (M : ℕ) (B : Term) (N R : ℕ) : Type 0 where
  pub α : Subst
  pub β : Subst
  pub unifier : MostGeneral A B α β
  pub result : Marks (Marked A M B N α β) R
