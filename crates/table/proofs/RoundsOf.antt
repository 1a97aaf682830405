-- Laws of the rounds under any rules that use finitely many rows: they grow, a round that adds nothing is the last, their union is the least closed set, a row has one first round.
use Prim.Native.Nat.{ℕ, zero, suc, ◌≤◌}
use native.Mathlib.Decide.{dec_le}
use native.Mathlib.Omega.{arith}
use mathlib.Core.Path.{◌≡◌, refl}
use mathlib.Core.Logic.{◌⊎◌, inl, inr, ◌↔◌}
use Rattle.table.specs.Rounds.{InRound, FirstIn, ClosedUnder, LeastOf, InSome}
use Rattle.table.proofs.RulesOf.{Within, Finitary, rules_within}

module _ {R : Type 0} (start : R) (Rules : (R → Type 0) → R → Type 0) where
  -- a round has the rows of the rounds before it
  pub grows : (k j : ℕ) → j ≤ k → Within (InRound start Rules j) (InRound start Rules k)
  grows zero j h row r = let e : j ≡ 0 = omega arith in rw e at r
  grows (suc k) j h row r = at (grows k j) (dec_le j k)
    where
      at : (j ≤ k → Within (InRound start Rules j) (InRound start Rules k)) → Dec (j ≤ k) → InRound start Rules (suc k) row
      at below (yes l) = inl (below l row r)
      at below (no nl) = let e : j ≡ suc k = omega arith in rw e at r

  -- the row of round 0 is in every round
  pub start_in : (k : ℕ) → InRound start Rules k start
  start_in k = grows k 0 (omega arith) start refl

  -- a row has one first round
  pub one_first : (j k : ℕ) (row : R) → FirstIn start Rules j row → FirstIn start Rules k row → j ≡ k
  one_first j k row f g = at (dec_le j k) (dec_le k j)
    where
      at : Dec (j ≤ k) → Dec (k ≤ j) → j ≡ k
      at (yes l) (yes m) = omega arith
      at (yes l) (no nm) = absurd (g.1 j (omega arith) f.0)
      at (no nl) (yes m) = absurd (f.1 k (omega arith) g.0)
      at (no nl) (no nm) = omega arith

  module _ (finitary : Finitary Rules) where
    -- a round that adds nothing is the last
    pub stays : (k : ℕ) → Within (InRound start Rules (suc k)) (InRound start Rules k) → (j : ℕ) → Within (InRound start Rules j) (InRound start Rules k)
    stays k stop zero row r = grows k 0 (omega arith) row r
    stays k stop (suc j) row (inl r) = stays k stop j row r
    stays k stop (suc j) row (inr g) = stop row (inr (rules_within finitary (InRound start Rules j) (InRound start Rules k) (stays k stop j) row g))

    -- the union of the rounds is closed
    pub some_closed : ClosedUnder Rules (InSome start Rules)
    some_closed row g = let (k, r) = finitary.one_has_all (InRound start Rules) grows row g in (suc k, inr r)

    -- and each closed set that has the row of round 0 has all of it
    pub rounds_within : (T : R → Type 0) → ClosedUnder Rules T → T start → (k : ℕ) → Within (InRound start Rules k) T
    rounds_within T closed has zero row e = rw e has
    rounds_within T closed has (suc k) row (inl r) = rounds_within T closed has k row r
    rounds_within T closed has (suc k) row (inr g) = closed row (rules_within finitary (InRound start Rules k) T (rounds_within T closed has k) row g)

    -- "The table is the least set of rows closed under the mode rules": the union of the rounds
    pub least_some : (row : R) → LeastOf start Rules row ↔ InSome start Rules row
    least_some row = (λ least. least (InSome start Rules) some_closed (0, refl), λ (k, r) T closed has. rounds_within T closed has k row r)

    -- where a round adds nothing, its rows are the least set
    pub least_in : (k : ℕ) → Within (InRound start Rules (suc k)) (InRound start Rules k) → (row : R) → LeastOf start Rules row ↔ InRound start Rules k row
    least_in k stop row = (λ least. least (InRound start Rules k) (λ r g. stop r (inr g)) (start_in k), λ r T closed has. rounds_within T closed has k row r)

    module _ (decide : (k : ℕ) (row : R) → Dec (InRound start Rules k row)) where
      -- a row of a round has a first round, that one or one before
      pub first_of : (k : ℕ) (row : R) → InRound start Rules k row → (j : ℕ) × (j ≤ k) × FirstIn start Rules j row
      first_of zero row r = (0, omega arith, (r, λ j l _. absurd (omega arith)))
      first_of (suc k) row r = at (first_of k row) (decide k row)
        where
          at : (InRound start Rules k row → (j : ℕ) × (j ≤ k) × FirstIn start Rules j row) → Dec (InRound start Rules k row) → (j : ℕ) × (j ≤ suc k) × FirstIn start Rules j row
          at below (yes r') = let (j, l, f) = below r' in (j, omega arith, f)
          at below (no nr) = (suc k, omega arith, (r, λ j l r'. nr (grows k j (omega arith) row r')))

      -- a row that is first in round k+1 uses a row that is first in round k: no round is empty before the last
      pub one_before : (k : ℕ) (row : R) → FirstIn start Rules (suc k) row → (row' : R) × FirstIn start Rules k row'
      one_before zero row f = (start, (refl, λ j l _. absurd (omega arith)))
      one_before (suc k) row ((inl r), new) = absurd (new (suc k) (omega arith) r)
      one_before (suc k) row ((inr g), new) = at (finitary.or_else (InRound start Rules (suc k)) (InRound start Rules k) Newer (λ row' r. older row' r (decide k row')) row g)
        where
          Newer : Type 0
          Newer = (row' : R) × FirstIn start Rules (suc k) row'

          older : (row' : R) → InRound start Rules (suc k) row' → Dec (InRound start Rules k row') → InRound start Rules k row' ⊎ Newer
          older row' r (yes r') = inl r'
          older row' r (no nr) = inr (row', (r, λ j l r'. nr (grows k j (omega arith) row' r')))

          at : Rules (InRound start Rules k) row ⊎ Newer → Newer
          at (inl g') = absurd (new (suc k) (omega arith) (inr g'))
          at (inr newer) = newer
