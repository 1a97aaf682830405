-- Rounds that compute: where the rows that rules give from a list of rows can be listed, so can those of each round. Then it is decided whether a row is in a round,
-- and by round n the rounds have stopped or have more than n rows.
use Prim.Native.Nat.{ℕ, zero, suc, ◌≤◌, ◌<◌}
use native.Mathlib.Omega.{arith}
use mathlib.Core.Path.{◌≡◌, refl, ap, ◌∙◌, subst}
use mathlib.Core.Logic.{◌⊎◌, inl, inr, ◌↔◌}
use mathlib.Core.List.Memᴰ
use mathlib.Core.List.{List, [], ◌∷◌, Memᴰ}
use lib.ListN.{length, length-append}
use Rattle.terms.proofs.Variables.{decided_for}
use Rattle.program.specs.Shapes.{with}
use Rattle.program.proofs.ShapeLaws.{member_decided}
use Rattle.program.proofs.OwnShape.{with_old, with_new}
use Rattle.table.specs.Rounds.{InRound, FirstIn, LeastOf}
use Rattle.program.specs.Lists.{Distinct}
use Rattle.table.proofs.Lists.{behind, behind_keeps, behind_has, has_behind}
use Rattle.table.proofs.RulesOf.{Within, Finitary, rules_within}
use Rattle.table.proofs.RoundsOf.{grows, least_in}
use Rattle.table.proofs.ShapeVariables.{with_distinct}

-- a list put behind another makes it longer, or leaves it as it is
module _ {A : Type 0} (same : Discrete A) where
  behind_distinct : (new l : List A) → Distinct l → Distinct (behind same l new)
  behind_distinct [] l d = d
  behind_distinct (a ∷ new) l d = behind_distinct new (with same l a) (with_distinct same l a d)

  behind_longer : (new l : List A) → (behind same l new ≡ l) ⊎ (length l < length (behind same l new))
  behind_longer [] l = inl refl
  behind_longer (a ∷ new) l = at (member_decided same a l) (behind_longer new (with same l a))
    where
      at : Dec (Memᴰ a l) → (behind same (with same l a) new ≡ with same l a) ⊎ (length (with same l a) < length (behind same (with same l a) new))
          → (behind same (with same l a) new ≡ l) ⊎ (length l < length (behind same (with same l a) new))
      at (yes m) (inl e) = inl (e ∙ with_old same l a m)
      at (yes m) (inr h) = inr (rw (ap length (with_old same l a m)) at h)
      at (no n) (inl e) = inr (rw e (rw (ap length (with_new same l a n) ∙ length-append l (a ∷ [])) (omega arith)))
      at (no n) (inr h) = inr (omega (arith, ap length (with_new same l a n) ∙ length-append l (a ∷ [])))

module _ {R : Type 0} (same : Discrete R) (start : R) (given : List R → List R) where
  -- the rows of round k: one round more has what is given, each row once
  abbrev pub rows_in : ℕ → List R
  rows_in zero = start ∷ []
  rows_in (suc k) = behind same (rows_in k) (given (rows_in k))

  pub rows_distinct : (k : ℕ) → Distinct (rows_in k)
  rows_distinct zero = (Memᴰ.not-nil, tt)
  rows_distinct (suc k) = behind_distinct same (given (rows_in k)) (rows_in k) (rows_distinct k)

  module _ (Rules : (R → Type 0) → R → Type 0) (finitary : Finitary Rules)
      (given_all : (rows : List R) (row : R) → Memᴰ row (given rows) ↔ Rules (λ r. Memᴰ r rows) row) where
    -- a list that has the rows of a set, one round more: the set with all that the rules give from it
    grown_has : (rows : List R) (T : R → Type 0) → ((row : R) → Memᴰ row rows ↔ T row)
        → (row : R) → Memᴰ row (behind same rows (given rows)) ↔ (T row ⊎ Rules T row)
    grown_has rows T lists-all row = (λ m. to (has_behind same (given rows) rows row m), from)
      where
        to : Memᴰ row rows ⊎ Memᴰ row (given rows) → T row ⊎ Rules T row
        to (inl m) = inl ((lists-all row).0 m)
        to (inr m) = inr (rules_within finitary (λ r. Memᴰ r rows) T (λ r. (lists-all r).0) row ((given_all rows row).0 m))

        from : T row ⊎ Rules T row → Memᴰ row (behind same rows (given rows))
        from (inl r) = behind_keeps same (given rows) rows row ((lists-all row).1 r)
        from (inr g) = behind_has same (given rows) rows row ((given_all rows row).1 (rules_within finitary T (λ r. Memᴰ r rows) (λ r. (lists-all r).1) row g))

    -- the rows computed for round k are the rows of round k
    pub computed_in : (k : ℕ) (row : R) → Memᴰ row (rows_in k) ↔ InRound start Rules k row
    computed_in zero row = (Memᴰ.eq_of_singleton, Memᴰ.head)
    computed_in (suc k) row = grown_has (rows_in k) (InRound start Rules k) (computed_in k) row

    -- so it is decided whether a row is in a round
    pub decided_in : (k : ℕ) (row : R) → Dec (InRound start Rules k row)
    decided_in k row = decided_for (computed_in k row).0 (computed_in k row).1 (member_decided same row (rows_in k))

    abbrev pub Stops : ℕ → Type 0
    Stops k = Within (InRound start Rules (suc k)) (InRound start Rules k)

    -- a round that computes to the one before is the last
    pub computed_stops : (k : ℕ) → rows_in (suc k) ≡ rows_in k → Stops k
    computed_stops k e row r = (computed_in k row).0 (subst (Memᴰ row) e ((computed_in (suc k) row).1 r))

    -- and its rows are the least set
    pub computed_least_of : (k : ℕ) → rows_in (suc k) ≡ rows_in k → (row : R) → LeastOf start Rules row ↔ Memᴰ row (rows_in k)
    computed_least_of k e row =
        let l = least_in start Rules finitary k (computed_stops k e) row in (λ least. (computed_in k row).1 (l.0 least), λ m. l.1 ((computed_in k row).0 m))

    -- by round n the rounds have stopped, or have more than n rows
    pub stop_or_many : (n : ℕ) → ((k : ℕ) × Stops k) ⊎ (n < length (rows_in n))
    stop_or_many zero = inr (omega arith)
    stop_or_many (suc n) = at (stop_or_many n) (behind_longer same (given (rows_in n)) (rows_in n))
      where
        at : ((k : ℕ) × Stops k) ⊎ (n < length (rows_in n)) → (rows_in (suc n) ≡ rows_in n) ⊎ (length (rows_in n) < length (rows_in (suc n)))
            → ((k : ℕ) × Stops k) ⊎ (suc n < length (rows_in (suc n)))
        at (inl stops) _ = inl stops
        at (inr h) (inl e) = inl (n, computed_stops n e)
        at (inr h) (inr l) = inr (omega arith)

    -- the round of a row of round k
    abbrev pub round_of : ℕ → R → ℕ
    round_of zero row = 0
    round_of (suc k) row = elim (member_decided same row (rows_in k)) [ yes _ ↦ round_of k row | no _ ↦ suc k ]

    pub round_of_first : (k : ℕ) (row : R) → InRound start Rules k row → (round_of k row ≤ k) × FirstIn start Rules (round_of k row) row
    round_of_first zero row r = (omega arith, (r, λ j l _. omega arith))
    round_of_first (suc k) row r = at (round_of_first k row) (member_decided same row (rows_in k))
      where
        at : (InRound start Rules k row → (round_of k row ≤ k) × FirstIn start Rules (round_of k row) row) → (d : Dec (Memᴰ row (rows_in k)))
            → (elim d as (λ _. ℕ) [ yes _ ↦ round_of k row | no _ ↦ suc k ] ≤ suc k) × FirstIn start Rules (elim d as (λ _. ℕ) [ yes _ ↦ round_of k row | no _ ↦ suc k ]) row
        at below (yes m) = let (l, f) = below ((computed_in k row).0 m) in (omega arith, f)
        at below (no n) = (omega arith, (r, λ j l r'. n ((computed_in k row).1 (grows start Rules k j (omega arith) row r'))))
