-- The modes are a sound domain of marks, and each of its four operations has at most one result; where it has one, it is computed.
use Prim.Native.Nat.{ℕ, ◌<◌}
use native.Mathlib.Decide.{ℕ_discrete}
use mathlib.Core.Path.{◌≡◌, sym, ap, ◌∙◌, subst}
use mathlib.Core.Logic.{◌⊎◌, ⊎_elim}
use lib.Bits.{bit_or}
use Rattle.terms.specs.Term.{Term, Occ, Ground}
use Rattle.terms.proofs.Substs.{ground_sub}
use Rattle.terms.proofs.Variables.{both_decided, decided_for, some_decided, above, occ_above}
use Rattle.terms.specs.Mask.{Has}
use Rattle.marks.specs.Domain.{Sound}
use Rattle.marks.specs.Modes.{Together, KeptTo, Renumbered, modes}
use Rattle.terms.proofs.Masks.{has_none, has_decided, has_below, width, width_below, has_or, mask_of, mask_of_marks, marks_unique}
use Rattle.marks.proofs.Passing.{pass_fires, pass_sound}

pub together_unique : (M N R R' : ℕ) → Together M N R → Together M N R' → R ≡ R'
together_unique M N R R' h h' = marks_unique (λ v. Has M v ⊎ Has N v) R R' h h'

pub kept_unique : (P : ℕ → Type 0) (M R R' : ℕ) → KeptTo P M R → KeptTo P M R' → R ≡ R'
kept_unique P M R R' h h' = marks_unique (λ v. P v × Has M v) R R' h h'

pub renumbered_unique : (A : Term) (f : ℕ → ℕ) (M R R' : ℕ) → Renumbered A f M R → Renumbered A f M R' → R ≡ R'
renumbered_unique A f M R R' h h' = marks_unique (λ k. (v : ℕ) × Occ v A × (f v ≡ k) × Has M v) R R' h h'

-- the marks of a decided list
unfoldable pub kept_of : (P : ℕ → Type 0) → ((v : ℕ) → Dec (P v)) → ℕ → ℕ
unfolding mask_of both_decided has_decided width
kept_of P decide M = mask_of (λ v. P v × Has M v) (λ v. both_decided (decide v) (has_decided M v)) (width M)

pub kept_of_kept : (P : ℕ → Type 0) (decide : (v : ℕ) → Dec (P v)) (M : ℕ) → KeptTo P M (kept_of P decide M)
unfolding kept_of
kept_of_kept P decide M =
    mask_of_marks (λ v. P v × Has M v) (λ v. both_decided (decide v) (has_decided M v)) (width M)
    (λ v h. has_below (width M) M v (width_below M) h.1)

-- marks on an atom, in its shape's numbering
module _ (A : Term) (f : ℕ → ℕ) (M : ℕ) where
  unfoldable pub renumbered_decided : (k : ℕ) → Dec ((v : ℕ) × Occ v A × (f v ≡ k) × Has M v)
  unfolding ℕ_discrete both_decided decided_for has_decided some_decided
  renumbered_decided k =
      decided_for (λ s. (s.0, s.1, s.2.0, s.2.1)) (λ h. (h.0, h.1, (h.2, h.3)))
      (some_decided (λ v. (f v ≡ k) × Has M v) (λ v. both_decided (ℕ_discrete (f v) k) (has_decided M v)) A)

  unfoldable pub renumbered_of : ℕ
  unfolding mask_of renumbered_decided
  renumbered_of = mask_of (λ k. (v : ℕ) × Occ v A × (f v ≡ k) × Has M v) renumbered_decided (above f A)

  pub renumbered_of_renumbered : Renumbered A f M renumbered_of
  unfolding renumbered_of
  renumbered_of_renumbered =
      mask_of_marks (λ k. (v : ℕ) × Occ v A × (f v ≡ k) × Has M v) renumbered_decided (above f A)
      (λ k h. subst (λ (n : ℕ). n < above f A) h.2 (occ_above f h.0 A h.1))

pub modes_sound : Sound modes
modes_sound =
    record {
      holds_none = λ σ v h. absurd (has_none v h);
      holds_under = λ M σ θ g v h. rw (ground_sub (σ v) θ (g v h)) (g v h);
      pass_holds = λ A B M N α β e g g'. let p = pass_fires A M B N α β e in (p.0, p.1, pass_sound p.1 α β e g g');
      join_holds = λ M N σ g g'. (bit_or M N, has_or M N, λ v h. ⊎_elim (g v) (g' v) ((has_or M N v).0 h));
      keep_holds = λ P M σ decide g. (kept_of P decide M, kept_of_kept P decide M, λ v h. g v ((kept_of_kept P decide M v).0 h).1);
      number_holds = λ A f M σ σ' same g. (
        renumbered_of A f M,
        renumbered_of_renumbered A f M,
        λ k h.
            let s = (renumbered_of_renumbered A f M k).0 h in
            subst (λ (t : Term). Ground t) (sym (same s.0 s.1) ∙ ap σ' s.2) (g s.0 s.3),
      );
    }
