-- A round needs to look only at combinations with a new row: what the others give is there already.
use Prim.Native.Nat.{ℕ, zero, suc}
use mathlib.Core.Logic.{◌⊎◌, inl, inr, ⊎_elim, ◌↔◌}
use lib.ListN.{length}
use Rattle.marks.specs.Domain.{Domain}
use Rattle.program.specs.Program.{Program}
use Rattle.program.proofs.ShapeLaws.{nth_same}
use Rattle.table.specs.Rules.{Row, call, cont, solution, Reached, first, next, Gives, calls, conts, solves}
use Rattle.table.specs.Rounds.{At}
use Rattle.table.specs.Steps.{opens, makes, GoesOn, goes_call, goes_cont, EndsIn, ends_in, OnHead, on_head}
use Rattle.table.specs.NewRows.{Earlier, NewReached, NewOnHead, new_on_head, NewGives}

module _ (D : Domain) (p : Program) (T₀ T : Row D.Mark → Type 0) where
  -- what is looked at is what the rules give
  pub new_reached : (k i : ℕ) (N : D.Mark) → NewReached D p T₀ T k i N → Reached D p T k i N
  new_reached k zero N (s, M, new, opens hc hs passed) = first hc hs new.0 passed
  new_reached k (suc i) N (M, s, L, row, row', new, makes hc hA hs passed joined) = next hc hA hs row row' passed joined

  goes_gives : {k i : ℕ} {N : D.Mark} {row : Row D.Mark} → Reached D p T k i N → GoesOn D p k i N row → Gives D p T row
  goes_gives reached (goes_call hc hA numbered) = calls reached hc hA numbered
  goes_gives reached (goes_cont hc hA kept) = conts reached hc hA kept

  ends_gives : {k s : ℕ} {N C : D.Mark} {row : Row D.Mark} → OnHead D p T k N → T (call s C) → EndsIn D p k N s C row → Gives D p T row
  ends_gives (on_head hc reached) called (ends_in hc' hs passed) = solves hc reached hs called (rw (nth_same hc' hc) at passed)

  new_on_head_all : {k : ℕ} {N : D.Mark} → NewOnHead D p T₀ T k N → OnHead D p T k N
  new_on_head_all {k} {N} (new_on_head {c} hc reached) = on_head hc (new_reached k (length c.body) N reached)

  pub new_gives : (row : Row D.Mark) → NewGives D p T₀ T row → Gives D p T row
  new_gives row (k, inl (i, (N, reached, goes))) = goes_gives (new_reached k i N reached) goes
  new_gives row (k, inr (inl (N, head, s, C, called, ends))) = ends_gives (new_on_head_all head) called ends
  new_gives row (k, inr (inr (N, head, s, C, called, ends))) = ends_gives head called.0 ends

  module _ (decide : (row : Row D.Mark) → Dec (T₀ row)) where
    -- marks result from rows of the round before alone, or from a new row
    pub reached_old_or_new : {k i : ℕ} {N : D.Mark} → Reached D p T k i N → Reached D p T₀ k i N ⊎ NewReached D p T₀ T k i N
    reached_old_or_new {N = N} (first {k = k} {s = s} {M = M} hc hs row passed) = at (decide (call s M))
      where
        at : Dec (T₀ (call s M)) → Reached D p T₀ k 0 N ⊎ NewReached D p T₀ T k 0 N
        at (yes old) = inl (first hc hs old passed)
        at (no new) = inr (s, M, (row, new), opens hc hs passed)
    reached_old_or_new {N = N} (next {k = k} {i = i} {s = s} {M = M} {L = L} hc hA hs row row' passed joined) = at (decide (cont (suc k) (suc i) M)) (decide (solution s L))
      where
        at : Dec (T₀ (cont (suc k) (suc i) M)) → Dec (T₀ (solution s L)) → Reached D p T₀ k (suc i) N ⊎ NewReached D p T₀ T k (suc i) N
        at (yes old) (yes old') = inl (next hc hA hs old old' passed joined)
        at (yes old) (no new) = inr (M, s, L, row, row', inr new, makes hc hA hs passed joined)
        at (no new) _ = inr (M, s, L, row, row', inl new, makes hc hA hs passed joined)

    -- every row that the rules give is given by rows of the round before alone, or is looked at
    pub gives_old_or_new : (row : Row D.Mark) → Gives D p T row → Gives D p T₀ row ⊎ NewGives D p T₀ T row
    gives_old_or_new _ (calls {k} {i} {N = N} reached hc hA numbered) =
        ⊎_elim (λ r. inl (calls r hc hA numbered)) (λ r. inr (k, inl (i, (N, r, goes_call hc hA numbered)))) (reached_old_or_new reached)
    gives_old_or_new _ (conts {k} {i} {N = N} reached hc hA kept) =
        ⊎_elim (λ r. inl (conts r hc hA kept)) (λ r. inr (k, inl (i, (N, r, goes_cont hc hA kept)))) (reached_old_or_new reached)
    gives_old_or_new _ (solves {k} {s} {c} {N = N} {C = C} {R = R} hc reached hs row passed) = at (decide (call s C)) (reached_old_or_new reached)
      where
        at : Dec (T₀ (call s C)) → Reached D p T₀ k (length c.body) N ⊎ NewReached D p T₀ T k (length c.body) N
            → Gives D p T₀ (solution s R) ⊎ NewGives D p T₀ T (solution s R)
        at (no new) _ = inr (k, inr (inr (N, on_head hc reached, s, C, (row, new), ends_in hc hs passed)))
        at (yes old) (inl r) = inl (solves hc r hs old passed)
        at (yes old) (inr r) = inr (k, inr (inl (N, new_on_head hc r, s, C, row, ends_in hc hs passed)))

-- no rows give nothing
pub reached_nothing : (D : Domain) (p : Program) {k i : ℕ} {N : D.Mark} → Reached D p (λ _. ⊥) k i N → ⊥
reached_nothing D p (first hc hs x passed) = x
reached_nothing D p (next hc hA hs x x' passed joined) = x

pub gives_nothing : (D : Domain) (p : Program) (row : Row D.Mark) → Gives D p (λ _. ⊥) row → ⊥
gives_nothing D p _ (calls reached hc hA numbered) = reached_nothing D p reached
gives_nothing D p _ (conts reached hc hA kept) = reached_nothing D p reached
gives_nothing D p _ (solves hc reached hs x passed) = x

module _ (D : Domain) (p : Program) (goal : D.Mark) (decide : (k : ℕ) (row : Row D.Mark) → Dec (At D p goal k row)) where
  pub earlier_decided : (k : ℕ) (row : Row D.Mark) → Dec (Earlier D p goal k row)
  earlier_decided zero row = no (λ x. x)
  earlier_decided (suc k) row = decide k row

  -- the rounds: what the rules give from the rows so far is there already, or is looked at
  pub round_covered : (k : ℕ) (row : Row D.Mark) → Gives D p (At D p goal k) row
      → At D p goal k row ⊎ NewGives D p (Earlier D p goal k) (At D p goal k) row
  round_covered k row g = at k (gives_old_or_new D p (Earlier D p goal k) (At D p goal k) (earlier_decided k) row g)
    where
      at : (k : ℕ) → Gives D p (Earlier D p goal k) row ⊎ NewGives D p (Earlier D p goal k) (At D p goal k) row
          → At D p goal k row ⊎ NewGives D p (Earlier D p goal k) (At D p goal k) row
      at zero (inr h) = inr h
      at (suc k) (inr h) = inr h
      at zero (inl g') = absurd (gives_nothing D p row g')
      at (suc k) (inl g') = inl (inr g')

  -- a round is the one before and what it looks at
  pub round_split : (k : ℕ) (row : Row D.Mark) → At D p goal (suc k) row ↔ (At D p goal k row ⊎ NewGives D p (Earlier D p goal k) (At D p goal k) row)
  round_split k row = (⊎_elim inl (round_covered k row), ⊎_elim inl (λ h. inr (new_gives D p (Earlier D p goal k) (At D p goal k) row h)))
