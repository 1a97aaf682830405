-- Kept sets of things: none at first, one that gains masks, and what stays while the rows do.
use Prim.Native.Nat.{ℕ, ◌+◌, ◌*◌, ◌/◌, ◌%◌, ◌≤◌, ◌<◌}
use native.Mathlib.Omega.{arith}
use native.Mathlib.Decide.{dec_lt, ℕ_discrete}
use native.Mathlib.Nat.{mul-le-mul_left}
use mathlib.Core.Path.{◌≡◌, sym, ap, subst, ◌∙◌}
use mathlib.Core.Logic.{◌⊎◌, inl, inr, ◌↔◌}
use mathlib.Core.List.{List}
use lib.ListN.{length, get_or, set, replicate, length-set, length-replicate}
use lib.Seq.{get_or-set_same, get_or-set_other}
use Rattle.terms.proofs.Masks.{has_none}
use Rattle.rows.specs.KeptSets.{masks_in, KeptAt, Gained, things, known_of, kept_words, Keeping}
use Rattle.rows.proofs.MaskSets.{zero_word}

-- the set of a thing ends before that of a later one
sets_follow : (size k k' : ℕ) → k < k' → size * k + size ≤ size * k'
sets_follow size k k' l = let h : size * (k + 1) ≤ size * k' = mul-le-mul_left size (omega arith) in let e : size * (k + 1) ≡ size * k + size = omega arith in omega arith

pub set_within : (size k : ℕ) → k < things → size * k + size ≤ size * things
set_within size k l = sets_follow size k things l

sets_apart : (size k k' i : ℕ) → (k' ≡ k → ⊥) → i < size → (size * k' + i < size * k) ⊎ (size * k + size ≤ size * k' + i)
sets_apart size k k' i o l = at (dec_lt k' k)
  where
    at : Dec (k' < k) → (size * k' + i < size * k) ⊎ (size * k + size ≤ size * k' + i)
    at (yes h) = inl (omega (arith, sets_follow size k' k h))
    at (no h) = inr (omega (arith, sets_follow size k k' (omega arith)))

module _ (size : ℕ) (Thing : ℕ → Type 0) (few : (k : ℕ) → Thing k → k < things) where
  -- with all words 0 nothing is kept, of no rows
  pub keeping_none : (Result : (k : ℕ) → Thing k → ℕ → ℕ → Type 0) (kept : List ℕ) (n : ℕ) → ((k : ℕ) (w : Thing k) (q : ℕ) → Result k w 0 q → ⊥) → kept ≡ replicate (kept_words size) 0
      → Keeping size Thing Result kept n
  keeping_none Result kept n nothing e =
      record {
        every_word = ap length e ∙ length-replicate {A = ℕ} (kept_words size) 0;
        known_within = λ k w. omega (arith, zero (size * things + k));
        members = λ k w q l. (
          λ h. absurd (has_none (q % 16) (rw (zero (size * k + q / 16)) at h)),
          λ r. absurd (nothing k w q (subst (λ (x : ℕ). Result k w x q) (zero (size * things + k)) r)),
        );
      }
    where
      zero : (i : ℕ) → get_or kept i 0 ≡ 0
      zero i = ap (λ (l : List ℕ). get_or l i 0) e ∙ zero_word (kept_words size) i

  pub keeping_later : {Result : (k : ℕ) → Thing k → ℕ → ℕ → Type 0} {kept : List ℕ} {n n' : ℕ} → n ≤ n' → Keeping size Thing Result kept n → Keeping size Thing Result kept n'
  keeping_later b s = record { every_word = s.every_word; known_within = λ k w. let l = s.known_within k w in omega arith; members = s.members }

  -- what results from the first n rows may be said in other words
  pub keeping_for : {Result Result' : (k : ℕ) → Thing k → ℕ → ℕ → Type 0} {kept : List ℕ} {n : ℕ} → ((k : ℕ) (w : Thing k) (m q : ℕ) → m ≤ n → Result k w m q ↔ Result' k w m q)
      → Keeping size Thing Result kept n → Keeping size Thing Result' kept n
  keeping_for {kept = kept} same s =
      record {
        every_word = s.every_word;
        known_within = s.known_within;
        members = λ k w q l.
            let e = same k w (known_of size kept k) q (s.known_within k w) in (
              λ h. e.0 ((s.members k w q l).0 h),
              λ r. (s.members k w q l).1 (e.1 r),
            );
      }

  -- thing k gains masks, and the first so many rows are known for it
  module _ {P : ℕ → Type 0} {kept kept' : List ℕ} (every_word : length kept ≡ kept_words size) (k : ℕ) (less : k < things) (g : Gained P (size * k) size kept kept') (rows : ℕ) where
    abbrev now_known : List ℕ
    now_known = set kept' (size * things + k) rows

    pub known_here : known_of size now_known k ≡ rows
    known_here = get_or-set_same kept' (size * things + k) rows 0 (omega (arith, g.as_long))

    pub known_other : (k' : ℕ) → (k' ≡ k → ⊥) → known_of size now_known k' ≡ known_of size kept k'
    known_other k' o =
        get_or-set_other kept' (size * things + k) (size * things + k') rows 0 (λ e. o (omega arith)) ∙ g.others (size * things + k') (inr (omega (arith, set_within size k less)))

    set_word : (k' q : ℕ) → k' < things → q < masks_in size → get_or now_known (size * k' + q / 16) 0 ≡ get_or kept' (size * k' + q / 16) 0
    set_word k' q b l = get_or-set_other kept' (size * things + k) (size * k' + q / 16) rows 0 (λ e. omega (arith, set_within size k' b))

    pub kept_here : (q : ℕ) → q < masks_in size → KeptAt now_known (size * k) q ↔ KeptAt kept' (size * k) q
    kept_here q l = rw (set_word k q less l) (λ h. h, λ h. h)

    pub kept_other : (k' q : ℕ) → (k' ≡ k → ⊥) → k' < things → q < masks_in size → KeptAt now_known (size * k') q ↔ KeptAt kept (size * k') q
    kept_other k' q o b l = rw (set_word k' q b l, g.others (size * k' + q / 16) (sets_apart size k k' (q / 16) o (omega arith))) (λ h. h, λ h. h)

    pub keeping_gained : {Result : (k : ℕ) → Thing k → ℕ → ℕ → Type 0} {n : ℕ} → Keeping size Thing Result kept n → rows ≤ n
        → ((w : Thing k) (q : ℕ) → q < masks_in size → KeptAt kept' (size * k) q ↔ Result k w rows q)
        → Keeping size Thing Result (set kept' (size * things + k) rows) n
    keeping_gained {Result} {n} s most its =
        record {
          every_word = length-set kept' (size * things + k) rows ∙ g.as_long ∙ every_word;
          known_within = λ k' w. within k' w (ℕ_discrete k' k);
          members = λ k' w q l. at k' w q l (ℕ_discrete k' k);
        }
      where
        within : (k' : ℕ) → Thing k' → Dec (k' ≡ k) → known_of size now_known k' ≤ n
        within k' w (yes e) = rw e (omega (arith, known_here))
        within k' w (no o) = rw (known_other k' o) (s.known_within k' w)

        here : (q : ℕ) → q < masks_in size → (w : Thing k) → KeptAt now_known (size * k) q ↔ Result k w (known_of size now_known k) q
        here q l w = rw known_here (λ h. (its w q l).0 ((kept_here q l).0 h), λ r. (kept_here q l).1 ((its w q l).1 r))

        at : (k' : ℕ) (w : Thing k') (q : ℕ) → q < masks_in size → Dec (k' ≡ k) → KeptAt now_known (size * k') q ↔ Result k' w (known_of size now_known k') q
        at k' w q l (yes e) =
            subst (λ (x : ℕ). (w : Thing x) → KeptAt now_known (size * x) q ↔ Result x w (known_of size now_known x) q) (sym e) (here q l) w
        at k' w q l (no o) =
            let b = few k' w in
            rw (known_other k' o) (λ h. (s.members k' w q l).0 ((kept_other k' q o b l).0 h), λ r. (kept_other k' q o b l).1 ((s.members k' w q l).1 r))
