-- Answers are forgotten: once the word of each answer is cleared, no word of the set has a bit.
use Prim.Native.Nat.{ℕ, zero, suc, ◌+◌, ◌*◌, ◌/◌, ◌%◌, ◌≤◌, ◌<◌}
use native.Mathlib.Omega.{arith}
use native.Mathlib.Decide.{dec_lt, ℕ_discrete}
use mathlib.Core.Path.{◌≡◌, refl, sym, ◌∙◌}
use mathlib.Core.Logic.{◌⊎◌, inl, inr, ⊎_elim}
use mathlib.Core.List.{List, [], ◌∷◌, Memᴰ}
use lib.ListN.{length, get_or, set, length-set, replicate, length-replicate, get_or-replicate}
use lib.Seq.{get_or-set_same, get_or-set_other, ext_get_or}
use Rattle.terms.specs.Mask.{Has}
use Rattle.terms.proofs.Masks.{has_none, has_below, same_marks}
use Rattle.program.specs.Limits.{masks}
use Rattle.rows.specs.MaskSet.{set_words, InSet}
use Rattle.joining.specs.Answers.{SetOf}

-- a member has its place
pub member_at : (l : List ℕ) (q : ℕ) → Memᴰ q l → (k : ℕ) × (k < length l) × (get_or l k 0 ≡ q)
member_at [] q m = elim m [ ]
member_at (a ∷ l) q (Memᴰ.head e) = (0, omega arith, sym e)
member_at (a ∷ l) q (Memᴰ.tail m) = let (k, h, e) = member_at l q m in (suc k, omega arith, e)

pub at_member : (l : List ℕ) (k : ℕ) → k < length l → Memᴰ (get_or l k 0) l
at_member [] k h = absurd (omega arith)
at_member (a ∷ l) zero h = Memᴰ.head refl
at_member (a ∷ l) (suc k) h = Memᴰ.tail (at_member l k (omega arith))

-- the words of the first i answers are cleared, the others are as they were
pub record Forgotten (seen answers : List ℕ) (i : ℕ) (seen' : List ℕ) : Type 0 where
  pub size : length seen' ≡ length seen
  pub cleared : (k : ℕ) → k < i → get_or seen' (get_or answers k 0 / 16) 0 ≡ 0
  pub kept : (v : ℕ) → (get_or seen' v 0 ≡ 0) ⊎ (get_or seen' v 0 ≡ get_or seen v 0)

module _ (seen answers : List ℕ) where
  pub forgotten_none : Forgotten seen answers 0 seen
  forgotten_none = record { size = refl; cleared = λ k h. absurd (omega arith); kept = λ v. inr refl }

  module _ (set_of : SetOf seen answers) (i : ℕ) (h : i < length answers) where
    pub word_there : get_or answers i 0 / 16 < set_words
    word_there = let s = set_of.small (get_or answers i 0) (at_member answers i h) in omega arith

    pub forgotten_one : (seen' : List ℕ) → Forgotten seen answers i seen' → Forgotten seen answers (i + 1) (set seen' (get_or answers i 0 / 16) 0)
    forgotten_one seen' f =
        record {
          size = rw length-set f.size;
          cleared = λ k l. at k l (ℕ_discrete (get_or answers k 0 / 16) (get_or answers i 0 / 16)) (dec_lt k i);
          kept = λ v. word v (ℕ_discrete v (get_or answers i 0 / 16));
        }
      where
        within : get_or answers i 0 / 16 < length seen'
        within = omega (arith, word_there, f.size, set_of.set_size)

        at : (k : ℕ) → k < i + 1 → Dec (get_or answers k 0 / 16 ≡ get_or answers i 0 / 16) → Dec (k < i)
            → get_or (set seen' (get_or answers i 0 / 16) 0) (get_or answers k 0 / 16) 0 ≡ 0
        at k l (yes e) _ = rw e (get_or-set_same seen' (get_or answers i 0 / 16) 0 0 within)
        at k l (no n) (yes b) = get_or-set_other seen' (get_or answers i 0 / 16) (get_or answers k 0 / 16) 0 0 n ∙ f.cleared k b
        at k l (no n) (no o) = absurd (n (let e : k ≡ i = omega arith in rw e))

        word : (v : ℕ) → Dec (v ≡ get_or answers i 0 / 16)
            → (get_or (set seen' (get_or answers i 0 / 16) 0) v 0 ≡ 0) ⊎ (get_or (set seen' (get_or answers i 0 / 16) 0) v 0 ≡ get_or seen v 0)
        word v (yes e) = inl (rw e (get_or-set_same seen' (get_or answers i 0 / 16) 0 0 within))
        word v (no n) = rw (get_or-set_other seen' (get_or answers i 0 / 16) v 0 0 n) (f.kept v)

  -- a set whose members are all forgotten is empty: its words are 0
  pub forgotten_all : SetOf seen answers → (i : ℕ) → length answers ≤ i → ((v : ℕ) → get_or seen v 0 < masks) → (seen' : List ℕ) → Forgotten seen answers i seen'
      → seen' ≡ replicate set_words 0
  forgotten_all set_of i done small seen' f =
      ext_get_or 0 seen' (replicate set_words 0) (f.size ∙ set_of.set_size ∙ sym (length-replicate {A = ℕ} set_words 0))
      (λ v l. zero_word v (omega (arith, f.size, set_of.set_size)) ∙ sym (get_or-replicate {A = ℕ} set_words v 0 0 (omega (arith, f.size, set_of.set_size))))
    where
      none : (v : ℕ) → v < set_words → get_or seen' v 0 ≡ get_or seen v 0 → (b : ℕ) → Has (get_or seen' v 0) b → ⊥
      none v l e b h =
          let h' : Has (get_or seen v 0) b = rw e at h in
          let s : b < 16 = has_below 16 (get_or seen v 0) b (small v) h' in
          let d : (v * 16 + b) / 16 ≡ v = omega arith in
          let m : (v * 16 + b) % 16 ≡ b = omega arith in
          let there : InSet seen (v * 16 + b) = rw (d, m) h' in
          let (k, below, is) = member_at answers (v * 16 + b) ((set_of.same (v * 16 + b) (omega arith)).0 there) in
          let z : get_or seen' v 0 ≡ 0 = rw (is, d) at (f.cleared k (omega arith)) in
          has_none b (rw z at h)

      zero_word : (v : ℕ) → v < set_words → get_or seen' v 0 ≡ 0
      zero_word v l = ⊎_elim (λ z. z) (λ e. same_marks (get_or seen' v 0) 0 (λ b. (λ h. absurd (none v l e b h), λ h. absurd (has_none b h)))) (f.kept v)
