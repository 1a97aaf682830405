-- Laws of marks passed through a most general unifier: one result whichever unifier is taken, sound for every other unifier, growing with the marks, any or ground and nothing else, and there wherever the atoms unify.
-- The one idea: what is known through a most general unifier stays known under every unifier.
use Prim.Native.Nat.{ℕ}
use native.Mathlib.Omega.{arith}
use mathlib.Core.Path.{◌≡◌, sym, subst}
use mathlib.Core.Logic.{◌⊎◌, inl, inr, ⊎_elim}
use lib.Bits.{bit_or}
use Rattle.terms.specs.Term.{Term, Subst, Occ, All, Ground}
use Rattle.terms.specs.Unifier.{Unifies, Apart, MostGeneral}
use Rattle.terms.proofs.Substs.{all_occ, occ_all, occ_sub, sub_occ}
use Rattle.terms.proofs.Variables.{both_decided, decided_for, occ_decided, all_decided, some_decided, above, occ_above}
use Rattle.terms.proofs.Pairs.{Decided, unifier_decided}
use Rattle.terms.specs.Mask.{any, grounded, mark_of, Has, Marks}
use Rattle.marks.specs.Pass.{Known, Marked, Pass}
use Rattle.terms.proofs.Masks.{has_decided, mark_any_or_ground, marks_or, mask_of, mask_of_marks, same_marks}

-- marks of M are marks of M'
abbrev pub Fewer : ℕ → ℕ → Type 0
Fewer M M' = (v : ℕ) → Has M v → Has M' v

-- what is known through a most general unifier stays known under every unifier, with more marks too
pub known_under : {A B : Term} {α β : Subst} (M M' : ℕ) → Fewer M M' → MostGeneral A B α β → (α' β' : Subst) → Unifies A B α' β'
    → (y : ℕ) → Occ y B → All (Known A M α) (β y) → All (Known A M' α') (β' y)
known_under {A} {B} {α} {β} M M' more u α' β' e y o h =
    occ_all (Known A M' α') (β' y) (λ w q.
    let θ = u.general α' β' e in
    let z = occ_sub (β y) θ.0 w (subst (λ (t : Term). Occ w t) (sym (θ.2 y o)) q) in
    let k = all_occ (Known A M α) (β y) h z.0 z.1 in
    (k.0, k.1, more k.0 k.2, subst (λ (t : Term). Occ w t) (θ.1 k.0 k.1) (sub_occ (α k.0) θ.0 z.0 w k.3 z.2)))

pub marked_under : {A B : Term} {α β : Subst} (M M' N N' : ℕ) → Fewer M M' → Fewer N N' → MostGeneral A B α β → (α' β' : Subst) → Unifies A B α' β'
    → (y : ℕ) → Marked A M B N α β y → Marked A M' B N' α' β' y
marked_under M M' N N' more more' u α' β' e y (inl h) = inl (more' y h)
marked_under M M' N N' more more' u α' β' e y (inr h) = inr (h.0, known_under M M' more u α' β' e y h.0 h.1)

-- more marks in give more marks out
pub pass_more : {A B : Term} {M M' N N' R R' : ℕ} → Pass A M B N R → Pass A M' B N' R' → Fewer M M' → Fewer N N' → Fewer R R'
pass_more {M = M} {M' = M'} {N = N} {N' = N'} p p' more more' y h =
    (p'.result y).1 (marked_under M M' N N' more more' p.unifier p'.α p'.β p'.unifier.unifies y ((p.result y).0 h))

-- the result does not depend on which most general unifier is taken
pub pass_unique : {A B : Term} {M N R R' : ℕ} → Pass A M B N R → Pass A M B N R' → R ≡ R'
pass_unique {A} {B} {M} {N} {R} {R'} p p' = same_marks R R' (λ v. (pass_more p p' (λ w h. h) (λ w h. h) v, pass_more p' p (λ w h. h) (λ w h. h) v))

-- a unifier that is ground where the marks said so is ground where the result says so
pub pass_sound : {A B : Term} {M N R : ℕ} → Pass A M B N R → (α' β' : Subst) → Unifies A B α' β'
    → ((x : ℕ) → Has M x → Ground (α' x)) → ((y : ℕ) → Has N y → Ground (β' y)) → (y : ℕ) → Has R y → Ground (β' y)
pass_sound {A} {B} {M} {N} {R} p α' β' e grounded grounded' y h =
    at (marked_under M M N N (λ v b. b) (λ v b. b) p.unifier α' β' e y ((p.result y).0 h))
  where
    at : Marked A M B N α' β' y → Ground (β' y)
    at (inl b) = grounded' y b
    at (inr k) =
        occ_all (λ x. ⊥) (β' y) (λ z o.
        let known = all_occ (Known A M α') (β' y) k.1 z o in
        all_occ (λ x. ⊥) (α' known.0) (grounded known.0 known.2) z known.3)

-- the result marks variables of B, and what N marks
pub pass_within : {A B : Term} {M N R : ℕ} → Pass A M B N R → (y : ℕ) → Has R y → Has N y ⊎ Occ y B
pass_within {A} {B} {M} {N} p y h = at ((p.result y).0 h)
  where
    at : Marked A M B N p.α p.β y → Has N y ⊎ Occ y B
    at (inl b) = inl b
    at (inr k) = inr k.0

-- "Passing marks through a unifier cannot give a third value": in the result the mark of a variable is ground where it is marked, and any elsewhere
pub any_or_ground : {A B : Term} {M N R : ℕ} (p : Pass A M B N R) (v : ℕ)
    → ((mark_of R v ≡ grounded) × Marked A M B N p.α p.β v) ⊎ ((mark_of R v ≡ any) × (Marked A M B N p.α p.β v → ⊥))
any_or_ground {R = R} p v =
    ⊎_elim (λ a. inr (a, λ m. let g = (p.result v).1 m in omega arith)) (λ g. inl (g, (p.result v).0 g)) (mark_any_or_ground R v)

-- what a most general unifier marks, as a mask
module _ (A : Term) (M : ℕ) (B : Term) (N : ℕ) (α β : Subst) where
  unfoldable pub known_decided : (z : ℕ) → Dec (Known A M α z)
  unfolding has_decided both_decided decided_for occ_decided some_decided
  known_decided z =
      decided_for (λ s. (s.0, s.1, s.2.0, s.2.1)) (λ k. (k.0, k.1, (k.2, k.3)))
      (some_decided (λ x. Has M x × Occ z (α x)) (λ x. both_decided (has_decided M x) (occ_decided z (α x))) A)

  abbrev pub AllKnown : ℕ → Type 0
  AllKnown y = Occ y B × All (Known A M α) (β y)

  unfoldable pub all_known_decided : (y : ℕ) → Dec (AllKnown y)
  unfolding both_decided occ_decided all_decided known_decided
  all_known_decided y = both_decided (occ_decided y B) (all_decided (Known A M α) known_decided (β y))

  unfoldable pub passed : ℕ
  unfolding mask_of all_known_decided
  passed = bit_or N (mask_of AllKnown all_known_decided (above (λ y. y) B))

  pub passed_marks : Marks (Marked A M B N α β) passed
  unfolding passed
  passed_marks =
      marks_or N _ (λ v. (λ h. h, λ h. h))
      (mask_of_marks AllKnown all_known_decided (above (λ y. y) B) (λ y k. occ_above (λ v. v) y B k.0))

-- marks pass, or the atoms are apart
unfoldable pub pass_or_apart : (A : Term) (M : ℕ) (B : Term) (N : ℕ) → Decided A B → Apart A B ⊎ ((R : ℕ) × Pass A M B N R)
unfolding passed
pass_or_apart A M B N (inl apart) = inl apart
pass_or_apart A M B N (inr u) =
    inr (passed A M B N u.0 u.1, record { α = u.0; β = u.1; unifier = u.2; result = passed_marks A M B N u.0 u.1 })

unfoldable pub pass_decided : (A : Term) (M : ℕ) (B : Term) (N : ℕ) → Apart A B ⊎ ((R : ℕ) × Pass A M B N R)
unfolding pass_or_apart unifier_decided
pass_decided A M B N = pass_or_apart A M B N (unifier_decided A B)

-- the rule fires whenever the atoms unify
pub pass_fires : (A : Term) (M : ℕ) (B : Term) (N : ℕ) (α β : Subst) → Unifies A B α β → (R : ℕ) × Pass A M B N R
pass_fires A M B N α β e = at (pass_decided A M B N)
  where
    at : Apart A B ⊎ ((R : ℕ) × Pass A M B N R) → (R : ℕ) × Pass A M B N R
    at (inl apart) = absurd (apart α β e)
    at (inr p) = p
