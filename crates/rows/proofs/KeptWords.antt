-- Kept sets word by word: a set as a part of the words, one mask put in, a set put beside what is kept, and a set without what is kept.
use Prim.Native.Nat.{ℕ, zero, suc, ◌+◌, ◌-◌, ◌/◌, ◌%◌, ◌^◌, ◌≤◌, ◌<◌}
use native.Mathlib.Omega.{arith}
use native.Mathlib.Decide.{dec_lt, ℕ_discrete}
use native.Mathlib.Nat.{mod-lt}
use mathlib.Core.Path.{◌≡◌, refl, ap, ◌∙◌}
use mathlib.Core.Logic.{◌⊎◌, inl, inr, ⊎_elim, ◌↔◌}
use mathlib.Core.List.{List, []}
use Rattle.std.proofs.lemmas.List.{take_all, drop_all, append-nil, take-append-drop, take-set-le, drop-set-add}
use borrow.Rule.Slice.PartMut.{put_mid}
use lib.ListN.{length, get_or, set, take, drop, length-set, length-drop, get_or-eq_default}
use lib.Seq.{get_or-set_same, get_or-set_other, length-take-le, get_or-take, get_or-drop}
use lib.Bits.{bit_and, bit_or, bit_xor, differ, and_step, and_shr, xor_step, xor_shr}
use Rattle.terms.specs.Mask.{Has}
use Rattle.terms.proofs.Masks.{has_none, has_or, has_one}
use Rattle.program.specs.Lists.{between}
use Rattle.rows.specs.MaskSet.{with_mask, InSet}
use Rattle.rows.specs.KeptSets.{masks_in, KeptAt, Gained, Unkept}

-- the set, as a part of the words
module _ (kept : List ℕ) (first size : ℕ) (within : first + size ≤ length kept) (end : ℕ) (is-end : end ≡ first + size) where
  pub part_length : length (between kept first end) ≡ size
  part_length = let l : end - first ≤ length (drop first kept) = rw length-drop (omega arith) in length-take-le (end - first) (drop first kept) l ∙ omega arith

  pub part_word : (i : ℕ) → i < size → get_or (between kept first end) i 0 ≡ get_or kept (first + i) 0
  part_word i l = get_or-take (end - first) (drop first kept) i 0 (omega arith) ∙ get_or-drop first kept i 0

  pub part_members : (q : ℕ) → InSet (between kept first end) q ↔ ((q < masks_in size) × KeptAt kept first q)
  part_members q = at (dec_lt q (masks_in size))
    where
      at : Dec (q < masks_in size) → InSet (between kept first end) q ↔ ((q < masks_in size) × KeptAt kept first q)
      at (yes l) = let f = part_word (q / 16) (omega arith) in (λ h. (l, rw f at h), λ (l', h). rw f h)
      at (no o) = (
        λ h. absurd (has_none (q % 16) (rw (get_or-eq_default (between kept first end) 0 {n = q / 16} (omega (arith, part_length))) at h)),
        λ (l, h). absurd (o l),
      )

-- the words, where a mask is put into the part of them from `first` on
pub put_in_part : (kept : List ℕ) (first q : ℕ) (part : List ℕ) → first + q / 16 < length kept → part ≡ with_mask (take (length kept - first) (drop first kept)) q
    → put_mid first (length kept - first) kept part ≡ set kept (first + q / 16) (bit_or (get_or kept (first + q / 16) 0) (2 ^ (q % 16)))
put_in_part kept first q part within is =
    let word = bit_or (get_or kept (first + q / 16) 0) (2 ^ (q % 16)) in
    let all : take (length kept - first) (drop first kept) ≡ drop first kept = take_all (length kept - first) (drop first kept) (omega (arith, length-drop first kept)) in
    let its : part ≡ set (drop first kept) (q / 16) word = is ∙ rw (all, get_or-drop first kept (q / 16) 0) refl in
    let none : drop (length kept - first) (drop first kept) ≡ [] = drop_all (length kept - first) (drop first kept) (omega (arith, length-drop first kept)) in
    rw (its, none, append-nil (set (drop first kept) (q / 16) word), ← take-set-le first kept (first + q / 16) word (omega arith), ← drop-set-add first kept (q / 16) word)
    (take-append-drop first (set kept (first + q / 16) word))

-- a mask is put in
module _ (kept : List ℕ) (first q : ℕ) (within : first + q / 16 < length kept) where
  abbrev with_bit : List ℕ
  with_bit = set kept (first + q / 16) (bit_or (get_or kept (first + q / 16) 0) (2 ^ (q % 16)))

  pub mask_kept : (size : ℕ) → q < masks_in size → Gained (λ p. p ≡ q) first size kept with_bit
  mask_kept size small =
      record {
        as_long = length-set kept (first + q / 16) (bit_or (get_or kept (first + q / 16) 0) (2 ^ (q % 16)));
        members = λ p l. at p (ℕ_discrete (p / 16) (q / 16));
        others = λ i h. get_or-set_other kept (first + q / 16) i (bit_or (get_or kept (first + q / 16) 0) (2 ^ (q % 16))) 0 (λ e. ⊎_elim (λ l. omega arith) (λ l. omega arith) h);
      }
    where
      at : (p : ℕ) → Dec (p / 16 ≡ q / 16) → KeptAt with_bit first p ↔ (KeptAt kept first p ⊎ (p ≡ q))
      at p (no o) =
          rw (get_or-set_other kept (first + q / 16) (first + p / 16) (bit_or (get_or kept (first + q / 16) 0) (2 ^ (q % 16))) 0 (λ e. o (omega arith)))
          (inl, ⊎_elim (λ h. h) (λ e. absurd (o (ap (λ (x : ℕ). x / 16) e))))
      at p (yes i) =
          rw (i, get_or-set_same kept (first + q / 16) (bit_or (get_or kept (first + q / 16) 0) (2 ^ (q % 16))) 0 within) (
            λ h. ⊎_elim inl (λ b. inr (let e = (has_one (q % 16) (p % 16)).0 b in omega arith)) ((has_or (get_or kept (first + q / 16) 0) (2 ^ (q % 16)) (p % 16)).0 h),
            ⊎_elim
                (λ h. (has_or (get_or kept (first + q / 16) 0) (2 ^ (q % 16)) (p % 16)).1 (inl h))
                (λ e. (has_or (get_or kept (first + q / 16) 0) (2 ^ (q % 16)) (p % 16)).1 (inr ((has_one (q % 16) (p % 16)).1 (ap (λ (x : ℕ). x % 16) e)))),
          )

-- nothing is put in, and what was put in one after the other
pub gained_none : {P : ℕ → Type 0} (first size : ℕ) (kept : List ℕ) → ((q : ℕ) → P q → ⊥) → Gained P first size kept kept
gained_none first size kept empty = record { as_long = refl; members = λ q l. (inl, ⊎_elim (λ h. h) (λ h. absurd (empty q h))); others = λ i h. refl }

pub gained_then : {P Q R : ℕ → Type 0} {first size : ℕ} {kept kept' kept'' : List ℕ} → Gained P first size kept kept' → Gained Q first size kept' kept''
    → ((q : ℕ) → (P q ⊎ Q q) ↔ R q) → Gained R first size kept kept''
gained_then a b both =
    record {
      as_long = b.as_long ∙ a.as_long;
      members = λ q l. (
        λ h. ⊎_elim (λ h'. ⊎_elim inl (λ o. inr ((both q).0 (inl o))) ((a.members q l).0 h')) (λ o. inr ((both q).0 (inr o))) ((b.members q l).0 h),
        λ h. (b.members q l).1 (⊎_elim (λ h'. inl ((a.members q l).1 (inl h'))) (λ r. ⊎_elim (λ o. inl ((a.members q l).1 (inr o))) inr ((both q).1 r)) h),
      );
      others = λ i h. b.others i h ∙ a.others i h;
    }

-- the first i words of the set have what is found besides
pub record Beside (found : List ℕ) (first i : ℕ) (kept₀ kept : List ℕ) : Type 0 where
  pub as_long : length kept ≡ length kept₀
  pub beside : (j : ℕ) → j < i → get_or kept (first + j) 0 ≡ bit_or (get_or kept₀ (first + j) 0) (get_or found j 0)
  pub others : (j : ℕ) → (j < first) ⊎ (first + i ≤ j) → get_or kept j 0 ≡ get_or kept₀ j 0

pub beside_none : (found : List ℕ) (first : ℕ) (kept : List ℕ) → Beside found first 0 kept kept
beside_none found first kept = record { as_long = refl; beside = λ j l. absurd (omega arith); others = λ j l. refl }

pub beside_one : (found : List ℕ) (first i : ℕ) (kept₀ kept : List ℕ) → first + i < length kept₀ → Beside found first i kept₀ kept
    → Beside found first (i + 1) kept₀ (set kept (first + i) (bit_or (get_or kept (first + i) 0) (get_or found i 0)))
beside_one found first i kept₀ kept b c =
    record {
      as_long = length-set kept (first + i) (bit_or (get_or kept (first + i) 0) (get_or found i 0)) ∙ c.as_long;
      beside = λ j l. at j l (ℕ_discrete j i);
      others = λ j. ⊎_elim
          (λ l. get_or-set_other kept (first + i) j (bit_or (get_or kept (first + i) 0) (get_or found i 0)) 0 (λ e. omega arith) ∙ c.others j (inl l))
          (λ l. get_or-set_other kept (first + i) j (bit_or (get_or kept (first + i) 0) (get_or found i 0)) 0 (λ e. omega arith) ∙ c.others j (inr (omega arith)));
    }
  where
    same : get_or kept (first + i) 0 ≡ get_or kept₀ (first + i) 0
    same = c.others (first + i) (inr (omega arith))

    at : (j : ℕ) → j < i + 1 → Dec (j ≡ i) → get_or (set kept (first + i) (bit_or (get_or kept (first + i) 0) (get_or found i 0))) (first + j) 0 ≡ bit_or (get_or kept₀ (first + j) 0) (get_or found j 0)
    at j l (yes e) = rw e (get_or-set_same kept (first + i) (bit_or (get_or kept (first + i) 0) (get_or found i 0)) 0 (omega (arith, c.as_long)) ∙ ap (λ (x : ℕ). bit_or x (get_or found i 0)) same)
    at j l (no o) = get_or-set_other kept (first + i) (first + j) (bit_or (get_or kept (first + i) 0) (get_or found i 0)) 0 (λ e. o (omega arith)) ∙ c.beside j (omega arith)

pub beside_all : (found : List ℕ) (first i : ℕ) (kept₀ kept : List ℕ) → Beside found first i kept₀ kept → Gained (InSet found) first i kept₀ kept
beside_all found first i kept₀ kept c =
    record {
      as_long = c.as_long;
      members = λ q l. rw (c.beside (q / 16) (omega arith)) (has_or (get_or kept₀ (first + q / 16) 0) (get_or found (q / 16) 0) (q % 16));
      others = λ j. ⊎_elim (λ l. c.others j (inl l)) (λ l. c.others j (inr (omega arith)));
    }

-- a word without the bits of another
differ_less : (m n : ℕ) → n ≤ m → differ m n ≡ m - n
differ_less zero n l = omega arith
differ_less (suc m) zero l = omega arith
differ_less (suc m) (suc n) l = let e = differ_less m n (omega arith) in omega arith

has_without : (a b v : ℕ) → Has (bit_xor a (bit_and a b)) v ↔ (Has a v × (Has b v → ⊥))
has_without a b v =
    let l = mod-lt (a / 2 ^ v) {m = 2} (omega arith) in
    let r = mod-lt (b / 2 ^ v) {m = 2} (omega arith) in
    let f = and_step (a / 2 ^ v) (b / 2 ^ v) in
    let d = differ_less (a / 2 ^ v % 2) (bit_and (a / 2 ^ v) (b / 2 ^ v) % 2) (omega arith) in
    let e = xor_step (a / 2 ^ v) (bit_and (a / 2 ^ v) (b / 2 ^ v)) in
    rw (xor_shr a (bit_and a b) v, and_shr a b v) (λ h. (omega arith, λ o. omega arith), λ (o, n). omega arith)

abbrev word_left : List ℕ → ℕ → List ℕ → ℕ → ℕ
word_left kept first found j = bit_xor (get_or found j 0) (bit_and (get_or found j 0) (get_or kept (first + j) 0))

-- the first i words of the set are without what is kept in the set at `first`, and `left` has the bits of all of them
pub record Without (kept : List ℕ) (first i : ℕ) (found₀ found : List ℕ) (left : ℕ) : Type 0 where
  pub as_long : length found ≡ length found₀
  pub without : (j : ℕ) → j < i → get_or found j 0 ≡ word_left kept first found₀ j
  pub others : (j : ℕ) → i ≤ j → get_or found j 0 ≡ get_or found₀ j 0
  pub told : (j v : ℕ) → j < i → Has (get_or found j 0) v → Has left v

pub without_none : (kept : List ℕ) (first : ℕ) (found : List ℕ) → Without kept first 0 found found 0
without_none kept first found = record { as_long = refl; without = λ j l. absurd (omega arith); others = λ j l. refl; told = λ j v l. absurd (omega arith) }

pub without_one : (kept : List ℕ) (first i : ℕ) (found₀ found : List ℕ) (left : ℕ) → i < length found₀ → Without kept first i found₀ found left
    → Without kept first (i + 1) found₀ (set found i (word_left kept first found i)) (bit_or left (word_left kept first found i))
without_one kept first i found₀ found left b c =
    record {
      as_long = length-set found i (word_left kept first found i) ∙ c.as_long;
      without = λ j l. at j l (ℕ_discrete j i);
      others = λ j l. get_or-set_other found i j (word_left kept first found i) 0 (λ e. omega arith) ∙ c.others j (omega arith);
      told = λ j v l h. (has_or left (word_left kept first found i) v).1 (bits j v l h (ℕ_discrete j i));
    }
  where
    here : get_or (set found i (word_left kept first found i)) i 0 ≡ word_left kept first found i
    here = get_or-set_same found i (word_left kept first found i) 0 (omega (arith, c.as_long))

    at : (j : ℕ) → j < i + 1 → Dec (j ≡ i) → get_or (set found i (word_left kept first found i)) j 0 ≡ word_left kept first found₀ j
    at j l (yes e) = rw e (here ∙ ap (λ (x : ℕ). bit_xor x (bit_and x (get_or kept (first + i) 0))) (c.others i (omega arith)))
    at j l (no o) = get_or-set_other found i j (word_left kept first found i) 0 (λ e. o (omega arith)) ∙ c.without j (omega arith)

    bits : (j v : ℕ) → j < i + 1 → Has (get_or (set found i (word_left kept first found i)) j 0) v → Dec (j ≡ i) → Has left v ⊎ Has (word_left kept first found i) v
    bits j v l h (yes e) = inr (rw (e, here) at h)
    bits j v l h (no o) = inl (c.told j v (omega arith) (rw (get_or-set_other found i j (word_left kept first found i) 0 (λ e. o (omega arith))) at h))

pub without_all : (kept : List ℕ) (first i : ℕ) (found₀ found : List ℕ) (left : ℕ) → Without kept first i found₀ found left → Unkept kept first i found₀ found
without_all kept first i found₀ found left c = record { as_long = c.as_long; members = λ q. at q (dec_lt q (masks_in i)) }
  where
    at : (q : ℕ) → Dec (q < masks_in i) → InSet found q ↔ (InSet found₀ q × (q < masks_in i → KeptAt kept first q → ⊥))
    at q (yes l) =
        let h = has_without (get_or found₀ (q / 16) 0) (get_or kept (first + q / 16) 0) (q % 16) in
        rw (c.without (q / 16) (omega arith)) (λ i. ((h.0 i).0, λ l'. (h.0 i).1), λ (i, n). h.1 (i, n l))
    at q (no o) = rw (c.others (q / 16) (omega arith)) (λ i. (i, λ l. absurd (o l)), λ (i, n). i)

-- where no bit is left, no mask is
pub without_told : (kept : List ℕ) (first i : ℕ) (found₀ found : List ℕ) (left : ℕ) → Without kept first i found₀ found left → (q : ℕ) → q < masks_in i → InSet found q → 0 < left
without_told kept first i found₀ found left c q l h = at (dec_lt 0 left)
  where
    at : Dec (0 < left) → 0 < left
    at (yes b) = b
    at (no o) = let z : left ≡ 0 = omega arith in absurd (has_none (q % 16) (rw z at (c.told (q / 16) (q % 16) (omega arith) h)))
