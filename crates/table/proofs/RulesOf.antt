-- What the rounds need to know of rules: a rule uses finitely many rows.
use Prim.Native.Nat.{ℕ, ◌≤◌}
use mathlib.Core.Logic.{◌⊎◌, inl, inr}

-- the first set is part of the second
abbrev pub Within {ℓ κ} : {A : Type 0} → (A → Type ℓ) → (A → Type κ) → Type (ℓ ⊔ κ)
Within {A = A} T T' = (a : A) → T a → T' a

pub record Finitary {R : Type 0} (Rules : (R → Type 0) → R → Type 0) : Type 1 where
  -- where each row that a rule uses is in the second set, or else X holds, the rule uses rows of the second set alone, or X holds
  pub or_else : (T T' : R → Type 0) (X : Type 0) → ((row : R) → T row → T' row ⊎ X) → (row : R) → Rules T row → Rules T' row ⊎ X
  -- sets that grow, one for each number: where each row that a rule uses is in one of them, one of them has all
  pub one_has_all : (T : ℕ → R → Type 0) → ((k j : ℕ) → j ≤ k → Within (T j) (T k)) → (row : R) → Rules (λ r. (k : ℕ) × T k r) row → (k : ℕ) × Rules (T k) row

-- more rows give more
pub rules_within : {R : Type 0} {Rules : (R → Type 0) → R → Type 0} → Finitary Rules → (T T' : R → Type 0) → Within T T' → Within (Rules T) (Rules T')
rules_within finitary T T' within row given = left (finitary.or_else T T' ⊥ (λ r t. inl (within r t)) row given)
  where
    left : {X : Type 0} → X ⊎ ⊥ → X
    left (inl x) = x
    left (inr x) = absurd x
