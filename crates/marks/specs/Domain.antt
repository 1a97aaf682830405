-- A domain of marks: what the mode rules need to know of a mark, and no more. The modes are its first instance.
use Rattle.std.specs.Prelude.{ℕ, ◌≡◌}
use Rattle.terms.specs.Term.{Term, Subst, sub, comp, Occ}

pub record Domain : Type 1 where
  -- what a row says of the variables of a shape or a clause
  pub Mark : Type 0
  -- "itself with none"
  pub none : Mark
  -- marks pass from an atom to an atom with marks of its own, and this is the result; no result: the rule does not fire
  pub Pass : Term → Mark → Term → Mark → Mark → Type 0
  -- marks together with marks
  pub Join : Mark → Mark → Mark → Type 0
  -- the marks of the variables of a list, and no other
  pub Keep : (ℕ → Type 0) → Mark → Mark → Type 0
  -- marks on an atom's variables, taken to its shape's numbering: the variable v of the atom is the shape's variable `number v`
  pub Number : Term → (ℕ → ℕ) → Mark → Mark → Type 0
  -- what the marks say of a substitution
  pub Holds : Mark → Subst → Type 0

-- what the marks of a domain must keep so that the rows of a table cover what its runs call and solve
pub record Sound (D : Domain) : Type 1 where
  -- "Variables with no mark said are any": no marks say nothing
  pub holds_none : (σ : Subst) → D.Holds D.none σ
  -- a step of a run applies its substitution to everything, and the marks still hold
  pub holds_under : (M : D.Mark) (σ θ : Subst) → D.Holds M σ → D.Holds M (comp σ θ)
  -- atoms made equal: marks pass, and what results holds
  pub pass_holds : (A B : Term) (M N : D.Mark) (α β : Subst) → sub A α ≡ sub B β → D.Holds M α → D.Holds N β
      → (R : D.Mark) × D.Pass A M B N R × D.Holds R β
  pub join_holds : (M N : D.Mark) (σ : Subst) → D.Holds M σ → D.Holds N σ → (R : D.Mark) × D.Join M N R × D.Holds R σ
  pub keep_holds : (P : ℕ → Type 0) (M : D.Mark) (σ : Subst) → ((v : ℕ) → Dec (P v)) → D.Holds M σ
      → (R : D.Mark) × D.Keep P M R × D.Holds R σ
  pub number_holds : (A : Term) (f : ℕ → ℕ) (M : D.Mark) (σ σ' : Subst) → ((v : ℕ) → Occ v A → σ' (f v) ≡ σ v) → D.Holds M σ
      → (R : D.Mark) × D.Number A f M R × D.Holds R σ'
