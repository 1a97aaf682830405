-- The set `solved` before marks go to a shape: the words that can have a mask of the shape's variables are cleared, and so are those that can have such a mask
-- beside the mark of variable 15.
use Prim.Native.Nat.{ℕ, ◌+◌, ◌-◌, ◌/◌, ◌%◌, ◌≤◌, ◌<◌}
use native.Mathlib.Omega.{arith}
use mathlib.Core.Path.{◌≡◌, ap, subst, ◌∙◌}
use mathlib.Core.List.{List, ◌++◌}
use lib.ListN.{length, get_or, take, drop, replicate, length-replicate, length-append, get_or-append}
use lib.Seq.{length-take-le, get_or-append-add, get_or-take}
use borrow.Rule.Slice.PartMut.{put_mid, mid_of, post_of}
use Rattle.terms.specs.Mask.{Has}
use Rattle.rows.specs.MaskSet.{set_words, InSet}
use Rattle.rows.proofs.MaskSets.{none_in_cleared}
use Rattle.solving.specs.SolvedSets.{passed_mark, NoneSolved}

-- the word of a set from which on its masks have the mark of variable 15
abbrev pub passed_words : ℕ
passed_words = 2048

-- a mask beside that mark stands so many words further on, as the same bit
passed_place : (N : ℕ) → ((passed_mark + N) / 16 ≡ passed_words + N / 16) × ((passed_mark + N) % 16 ≡ N % 16)
passed_place N = (omega arith, omega arith)

module _ (before set : List ℕ) (here words : ℕ) (enough : here / 16 < words) (cleared : set ≡ replicate words 0 ++ drop words before) where
  none_first : (N : ℕ) → N ≤ here → InSet set N → ⊥
  none_first N few h = none_in_cleared before words N (omega arith) (rw cleared at h)

  -- a shape of sixteen variables
  pub none_solved_all : passed_mark ≤ here → NoneSolved set here
  none_solved_all all N few = (none_first N few, λ l. absurd (omega arith))

  -- a shape of fewer: the words from `passed_words` on are lent, as `&mut solved[PASSED_WORDS..]` has them
  module _ (size : length set ≡ set_words) (part : List ℕ) (part-cleared : part ≡ replicate words 0 ++ drop words (mid_of passed_words (length set - passed_words) set)) where
    abbrev back : List ℕ
    back = put_mid passed_words (length set - passed_words) set part

    abbrev rest : List ℕ
    rest = post_of passed_words (length set - passed_words) set

    front : length (take passed_words set) ≡ passed_words
    front = length-take-le passed_words set (omega arith)

    word_before : (i : ℕ) → i < passed_words → get_or back i 0 ≡ get_or set i 0
    word_before i l = get_or-append (take passed_words set) (part ++ rest) 0 i (omega (arith, front)) ∙ get_or-take passed_words set i 0 l

    part_long : words ≤ length part
    part_long =
        omega (arith, ap length part-cleared, length-append (replicate words 0) (drop words (mid_of passed_words (length set - passed_words) set)), length-replicate {A = ℕ} words 0)

    word_past : (i : ℕ) → i < words → get_or back (passed_words + i) 0 ≡ get_or part i 0
    word_past i l =
        let a = get_or-append-add {A = ℕ} (take passed_words set) (part ++ rest) i 0 in
        let b : get_or back (passed_words + i) 0 ≡ get_or (part ++ rest) i 0 = rw front at a in
        b ∙ get_or-append part rest 0 i (omega (arith, part_long))

    pub none_solved_fewer : here < passed_mark → NoneSolved back here
    none_solved_fewer l N few = (
      λ h. none_first N few (subst (λ (word : ℕ). Has word (N % 16)) (word_before (N / 16) (omega arith)) h),
      λ _ h.
          let there : Has (get_or back (passed_words + N / 16) 0) (N % 16) = rw ((passed_place N).0, (passed_place N).1) at h in
          let own : InSet part N = subst (λ (word : ℕ). Has word (N % 16)) (word_past (N / 16) (omega arith)) there in
          none_in_cleared (mid_of passed_words (length set - passed_words) set) words N (omega arith) (rw part-cleared at own),
    )
