-- Unifiers of two atoms whose variables are kept apart: pairs of substitutions.
use Rattle.std.specs.Prelude.{ℕ, ◌≡◌}
use Rattle.terms.specs.Term.{Term, Subst, sub, Occ}

-- "Unification is of finite terms, with the occurs check, the two atoms' variables kept apart": α is for the variables of A, β for those of B.
abbrev pub Unifies : Term → Term → Subst → Subst → Type 0
Unifies A B α β = sub A α ≡ sub B β

-- no pair of substitutions makes the two atoms equal
abbrev pub Apart : Term → Term → Type 0
Apart A B = (α β : Subst) → Unifies A B α β → ⊥

-- every unifier is this one followed by one θ, on the variables of A and of B
pub record MostGeneral (A B : Term) (α β : Subst) : Type 0 where
  pub unifies : Unifies A B α β
  pub general : (α' β' : Subst) → Unifies A B α' β'
      → (θ : Subst) × ((x : ℕ) → Occ x A → sub (α x) θ ≡ α' x) × ((y : ℕ) → Occ y B → sub (β y) θ ≡ β' y)
