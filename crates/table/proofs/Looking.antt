-- The loops of a round: what it looks at, clause by clause, and in a clause place by place and then at its end.
use Prim.Native.Nat.{ℕ, ◌<◌}
use mathlib.Core.Path.{◌≡◌}
use mathlib.Core.Logic.{◌⊎◌, inl, inr, ◌↔◌}
use lib.ListN.{length}
use Rattle.marks.specs.Modes.{modes}
use Rattle.program.specs.Program.{Nth, Clause, Program}
use Rattle.program.proofs.ShapeLaws.{nth_same}
use Rattle.program.proofs.Nths.{nth_below}
use Rattle.table.specs.Rules.{Row}
use Rattle.table.specs.Keys.{row_key}
use Rattle.table.specs.Steps.{GoesOn, goes_call, goes_cont, EndsIn, ends_in}
use Rattle.table.specs.Added.{Below}
use Rattle.table.specs.NewRows.{NewGoesOn, NewEnds, LateCalls, NewIn, NewGives}
use Rattle.table.specs.RoundKeys.{Keyed}

-- marks go on at a place of a clause of the program, and end in one
goes_clause : {p : Program} {k i N : ℕ} {row : Row ℕ} → GoesOn modes p k i N row → k < length p.clauses
goes_clause (goes_call hc hA numbered) = nth_below hc
goes_clause (goes_cont hc hA kept) = nth_below hc

goes_place : {p : Program} {k i N : ℕ} {row : Row ℕ} {c : Clause} → Nth p.clauses k c → GoesOn modes p k i N row → i < length c.body
goes_place hc (goes_call hc' hA numbered) = nth_below (rw (nth_same hc' hc) at hA)
goes_place hc (goes_cont hc' hA kept) = nth_below (rw (nth_same hc' hc) at hA)

ends_clause : {p : Program} {k N s C : ℕ} {row : Row ℕ} → EndsIn modes p k N s C row → k < length p.clauses
ends_clause (ends_in hc hs passed) = nth_below hc

module _ (p : Program) (T₀ T : Row ℕ → Type 0) where
  clause_below : (k : ℕ) (row : Row ℕ) → NewIn modes p T₀ T k row → k < length p.clauses
  clause_below k row (inl (i, (N, reached, goes))) = goes_clause goes
  clause_below k row (inr (inl (N, head, s, C, called, ends))) = ends_clause ends
  clause_below k row (inr (inr (N, head, s, C, called, ends))) = ends_clause ends

  -- all of it: clause by clause
  pub by_clauses : (key : ℕ) → Below (λ k. Keyed p (NewIn modes p T₀ T k)) (length p.clauses) key ↔ Keyed p (NewGives modes p T₀ T) key
  by_clauses key = (λ (k, l, (row, h, e)). (row, (k, h), e), λ (row, (k, h), e). (k, clause_below k row h, (row, h, e)))

  -- what marks go on to at the places of a clause, what they end in, and what late calls find
  pub by_places : {k : ℕ} {c : Clause} → Nth p.clauses k c → (key : ℕ)
      → (Below (λ i. Keyed p (NewGoesOn modes p T₀ T k i)) (length c.body) key ⊎ (Keyed p (NewEnds modes p T₀ T k) key ⊎ Keyed p (LateCalls modes p T₀ T k) key))
      ↔ Keyed p (NewIn modes p T₀ T k) key
  by_places {k} {c} hc key = (to, λ (row, h, e). from row h e)
    where
      to : Below (λ i. Keyed p (NewGoesOn modes p T₀ T k i)) (length c.body) key ⊎ (Keyed p (NewEnds modes p T₀ T k) key ⊎ Keyed p (LateCalls modes p T₀ T k) key)
          → Keyed p (NewIn modes p T₀ T k) key
      to (inl (i, l, (row, h, e))) = (row, inl (i, h), e)
      to (inr (inl (row, h, e))) = (row, inr (inl h), e)
      to (inr (inr (row, h, e))) = (row, inr (inr h), e)

      from : (row : Row ℕ) → NewIn modes p T₀ T k row → key ≡ row_key p row
          → Below (λ i. Keyed p (NewGoesOn modes p T₀ T k i)) (length c.body) key ⊎ (Keyed p (NewEnds modes p T₀ T k) key ⊎ Keyed p (LateCalls modes p T₀ T k) key)
      from row (inl (i, (N, reached, goes))) e = inl (i, goes_place hc goes, (row, (N, reached, goes), e))
      from row (inr (inl h)) e = inr (inl (row, h, e))
      from row (inr (inr h)) e = inr (inr (row, h, e))
