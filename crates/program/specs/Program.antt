-- A decoded program: definite clauses with one top goal.
use Rattle.std.specs.Prelude.{ℕ, zero, suc, List, [], ◌∷◌, ◌++◌}
use Rattle.terms.specs.Term.{Term}

-- a stands at place n of the list, counted from 0
pub data Nth {A : Type 0} : List A → ℕ → A → Type 0 where
  here : {a : A} {rest : List A} → Nth (a ∷ rest) zero a
  there : {a b : A} {rest : List A} {n : ℕ} → Nth rest n a → Nth (b ∷ rest) (suc n) a

pub record Clause : Type 0 where
  pub head : Term
  pub body : List Term

pub record Program : Type 0 where
  -- the arities, by number
  pub predicates : List ℕ
  pub functions : List ℕ
  pub clauses : List Clause
  pub goal : Term
  -- the mask of the goal's ground variables
  pub grounded : ℕ

-- the body atoms, in program order
abbrev pub bodies : List Clause → List Term
bodies [] = []
bodies (c ∷ cs) = c.body ++ bodies cs
