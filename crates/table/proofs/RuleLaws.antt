-- Laws of one application of a mode rule: it uses finitely many rows, so that it is monotone in the set of rows.
use Prim.Native.Nat.{ℕ, max, ◌≤◌}
use native.Mathlib.Nat.{le-max_left, le-max_right}
use mathlib.Core.Logic.{◌⊎◌, inl, inr}
use Rattle.marks.specs.Domain.{Domain}
use Rattle.program.specs.Program.{Program}
use Rattle.table.specs.Rules.{Row, Reached, first, next, Gives, calls, conts, solves}
use Rattle.table.proofs.RulesOf.{Within, Finitary, rules_within}

module _ (D : Domain) (p : Program) (T T' : Row D.Mark → Type 0) where
  pub reached_within : Within T T' → {k i : ℕ} {N : D.Mark} → Reached D p T k i N → Reached D p T' k i N
  reached_within w (first h s row passed) = first h s (w _ row) passed
  reached_within w (next h a s row row' passed joined) = next h a s (w _ row) (w _ row') passed joined

  -- where each row that a rule uses is in the second set, or else X holds, the rule uses rows of the second set alone, or X holds
  module _ (X : Type 0) (split : (row : Row D.Mark) → T row → T' row ⊎ X) where
    pub reached_or : {k i : ℕ} {N : D.Mark} → Reached D p T k i N → Reached D p T' k i N ⊎ X
    reached_or {k} {i} {N} (first h s row passed) = elim (split _ row) [ inl r ↦ inl (first h s r passed) | inr x ↦ inr x ]
    reached_or {k} {i} {N} (next h a s row row' passed joined) = elim (split _ row) [ inl r ↦ elim (split _ row') [ inl r' ↦ inl (next h a s r r' passed joined) | inr x ↦ inr x ] | inr x ↦ inr x ]

    pub gives_or : (row : Row D.Mark) → Gives D p T row → Gives D p T' row ⊎ X
    gives_or _ (calls reached h a numbered) = elim (reached_or reached) [ inl r ↦ inl (calls r h a numbered) | inr x ↦ inr x ]
    gives_or _ (conts reached h a kept) = elim (reached_or reached) [ inl r ↦ inl (conts r h a kept) | inr x ↦ inr x ]
    gives_or _ (solves h reached s row passed) = elim (reached_or reached) [ inl r ↦ elim (split _ row) [ inl c ↦ inl (solves h r s c passed) | inr x ↦ inr x ] | inr x ↦ inr x ]

module _ (D : Domain) (p : Program) (T : ℕ → Row D.Mark → Type 0) (grow : (k j : ℕ) → j ≤ k → Within (T j) (T k)) where
  abbrev InOne : Row D.Mark → Type 0
  InOne row = (k : ℕ) × T k row

  reached_in_one : {c i : ℕ} {N : D.Mark} → Reached D p InOne c i N → (k : ℕ) × Reached D p (T k) c i N
  reached_in_one (first h s (k, row) passed) = (k, first h s row passed)
  reached_in_one (next h a s (j, row) (k, row') passed joined) =
      (max j k, next h a s (grow (max j k) j (le-max_left j k) _ row) (grow (max j k) k (le-max_right j k) _ row') passed joined)

  pub gives_in_one : (row : Row D.Mark) → Gives D p InOne row → (k : ℕ) × Gives D p (T k) row
  gives_in_one _ (calls reached h a numbered) = let (k, r) = reached_in_one reached in (k, calls r h a numbered)
  gives_in_one _ (conts reached h a kept) = let (k, r) = reached_in_one reached in (k, conts r h a kept)
  gives_in_one _ (solves h reached s (j, row) passed) =
      let (k, r) = reached_in_one reached in (
        max j k,
        solves h (reached_within D p (T k) (T (max j k)) (grow (max j k) k (le-max_right j k)) r) s (grow (max j k) j (le-max_left j k) _ row) passed,
      )

pub gives_finitary : (D : Domain) (p : Program) → Finitary (Gives D p)
gives_finitary D p = record { or_else = gives_or D p; one_has_all = gives_in_one D p }

-- more rows give more
pub gives_within : (D : Domain) (p : Program) (T T' : Row D.Mark → Type 0) → Within T T' → Within (Gives D p T) (Gives D p T')
gives_within D p = rules_within (gives_finitary D p)
