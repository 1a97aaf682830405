-- "Its round is below the number of rows": every round up to a row's has a row of its own.
use Prim.Native.Nat.{ℕ, zero, suc, ◌≤◌, ◌<◌}
use native.Mathlib.Omega.{arith}
use native.Mathlib.Decide.{ℕ_discrete}
use mathlib.Core.Path.{◌≡◌}
use mathlib.Core.List.Memᴰ
use mathlib.Core.List.{List, map, Memᴰ}
use lib.ListN.{length, length-map}
use Rattle.program.proofs.Counting.{all_below_count}
use Rattle.table.specs.Rounds.{InRound, FirstIn}
use Rattle.table.proofs.RulesOf.{Finitary}
use Rattle.table.proofs.RoundsOf.{one_before}

module _ {R : Type 0} (start : R) (Rules : (R → Type 0) → R → Type 0) (finitary : Finitary Rules) (decide : (k : ℕ) (row : R) → Dec (InRound start Rules k row)) where
  -- each round up to a row's first has a row that is first there
  pub round_inhabited : (k j : ℕ) → j ≤ k → (row : R) → FirstIn start Rules k row → (row' : R) × FirstIn start Rules j row'
  round_inhabited zero j h row f = let e : j ≡ 0 = omega arith in (row, rw e f)
  round_inhabited (suc k) j h row f = at (λ l. let (row', f') = one_before start Rules finitary decide k row f in round_inhabited k j l row' f') (ℕ_discrete j (suc k))
    where
      at : (j ≤ k → (row' : R) × FirstIn start Rules j row') → Dec (j ≡ suc k) → (row' : R) × FirstIn start Rules j row'
      at below (yes e) = (row, rw e f)
      at below (no ne) = below (omega arith)

  -- in any list that has, with its round, each row of the least set: the rounds are below the list's length
  pub round_below_count : {A : Type 0} (l : List A) (round : A → ℕ)
      → ((j : ℕ) (row : R) → FirstIn start Rules j row → (a : A) × Memᴰ a l × (round a ≡ j))
      → (k : ℕ) (row : R) → FirstIn start Rules k row → k < length l
  round_below_count l round listed k row f = rw length-map at (all_below_count (suc k) (map round l) found)
    where
      found : (j : ℕ) → j < suc k → Memᴰ j (map round l)
      found j less =
          let (row', f') = round_inhabited k j (omega arith) row f in
          let (a, m, e) = listed j row' f' in
          rw (← e) (Memᴰ.map round m)
