-- The results of the modes can be listed: each operation has one result, or none where two atoms are apart. So the rounds of the modes are computed.
use Prim.Native.Nat.{ℕ}
use native.Mathlib.Decide.{ℕ_discrete}
use mathlib.Core.Path.{◌≡◌}
use mathlib.Core.Logic.{◌⊎◌, inl, inr, ◌↔◌}
use mathlib.Core.List.Memᴰ
use mathlib.Core.List.{List, [], ◌∷◌, Memᴰ}
use lib.Bits.{bit_or}
use Rattle.terms.specs.Term.{Term}
use Rattle.terms.specs.Unifier.{Apart}
use Rattle.marks.specs.Pass.{Pass}
use Rattle.marks.specs.Modes.{modes}
use Rattle.terms.proofs.Masks.{has_or}
use Rattle.marks.proofs.Passing.{pass_decided, pass_unique}
use Rattle.marks.proofs.Modes.{kept_of, kept_of_kept, renumbered_of, renumbered_of_renumbered, together_unique, kept_unique, renumbered_unique}
use Rattle.table.proofs.Computed.{Lists}

-- a list of one result, where there is one and no other
pub only_result : (P : ℕ → Type 0) (R : ℕ) → P R → ((R' : ℕ) → P R' → R' ≡ R) → (R' : ℕ) → Memᴰ R' (R ∷ []) ↔ P R'
only_result P R h unique R' = (λ m. rw (Memᴰ.eq_of_singleton m) h, λ h'. Memᴰ.head (unique R' h'))

-- the mask that passes, or none
abbrev pub passed_list : (A : Term) (M : ℕ) (B : Term) (N : ℕ) → Apart A B ⊎ ((R : ℕ) × Pass A M B N R) → List ℕ
passed_list A M B N (inl apart) = []
passed_list A M B N (inr (R, passed)) = R ∷ []

pub passed_list_all : (A : Term) (M : ℕ) (B : Term) (N : ℕ) (d : Apart A B ⊎ ((R : ℕ) × Pass A M B N R)) (R' : ℕ)
    → Memᴰ R' (passed_list A M B N d) ↔ Pass A M B N R'
passed_list_all A M B N (inl apart) R' = (λ m. elim m [ ], λ passed. absurd (apart passed.α passed.β passed.unifier.unifies))
passed_list_all A M B N (inr (R, passed)) R' = only_result (Pass A M B N) R passed (λ _ passed'. pass_unique passed' passed) R'

unfoldable pub pass_list : Term → ℕ → Term → ℕ → List ℕ
unfolding pass_decided
pass_list A M B N = passed_list A M B N (pass_decided A M B N)

pub pass_list_all : (A : Term) (M : ℕ) (B : Term) (N R : ℕ) → Memᴰ R (pass_list A M B N) ↔ Pass A M B N R
unfolding pass_list
pass_list_all A M B N R = passed_list_all A M B N (pass_decided A M B N) R

unfoldable pub modes_lists : Lists modes
unfolding pass_list kept_of renumbered_of ℕ_discrete
modes_lists = record {
  same = ℕ_discrete;
  passes = pass_list;
  joins = λ M N. bit_or M N ∷ [];
  keeps = λ P decide M. kept_of P decide M ∷ [];
  numbers = λ A f M. renumbered_of A f M ∷ [];
  passes_all = pass_list_all;
  joins_all = λ M N. only_result (modes.Join M N) (bit_or M N) (has_or M N) (λ R h. together_unique M N R (bit_or M N) h (has_or M N));
  keeps_all = λ P decide M. only_result (modes.Keep P M) (kept_of P decide M) (kept_of_kept P decide M) (λ R h. kept_unique P M R (kept_of P decide M) h (kept_of_kept P decide M));
  numbers_all = λ A f M. only_result (modes.Number A f M) (renumbered_of A f M) (renumbered_of_renumbered A f M) (λ R h. renumbered_unique A f M R (renumbered_of A f M) h (renumbered_of_renumbered A f M));
}
