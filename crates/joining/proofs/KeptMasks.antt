-- Answers in their atom's own numbering: put into the set of the atom, and listed from it. There is room for all, since the atom has few masks.
use Prim.Native.Nat.{ℕ, ◌+◌, ◌*◌, ◌^◌, ◌≤◌, ◌<◌}
use native.Mathlib.Omega.{arith}
use native.Mathlib.Numerals.{add-one}
use native.Mathlib.Decide.{ℕ_discrete}
use mathlib.Core.Path.{◌≡◌, refl, sym, subst}
use mathlib.Core.Bool.{true, false}
use mathlib.Core.Logic.{◌⊎◌, inl, inr, ⊎_elim, ◌↔◌}
use mathlib.Core.List.Memᴰ
use mathlib.Core.List.{List, [], ◌∷◌, ◌++◌, map, Memᴰ}
use lib.ListN.{length, take, get_or, set, length-map}
use lib.Seq.{take-suc, length-take-le}
use lib.Pow.{pow_mono}
use Rattle.terms.specs.Term.{Term, Occ}
use Rattle.terms.specs.Cells.{variables}
use Rattle.terms.specs.Mask.{Has}
use Rattle.terms.proofs.Masks.{marks_below, marks_unique}
use Rattle.marks.specs.Modes.{Renumbered, Reordered, Restored}
use Rattle.marks.proofs.Modes.{renumbered_of, renumbered_of_renumbered}
use Rattle.marks.proofs.RowMasks.{renumbered_restored}
use Rattle.program.specs.Shapes.{number}
use Rattle.program.specs.Limits.{masks}
use Rattle.program.specs.Lists.{Distinct}
use Rattle.rows.specs.MaskSet.{Inserted}
use Rattle.rows.specs.KeptSets.{Gained}
use Rattle.rows.proofs.KeptWords.{gained_none, gained_then}
use Rattle.table.proofs.Distinct.{distinct_map}
use Rattle.table.proofs.Lists.{has_map}
use Rattle.joining.specs.Answers.{Found}
use Rattle.joining.specs.KeptAnswers.{answer_set, answer_masks, AnsweredIn, Ordered, Recalled, Own, FewVars, RecallAsked}
use Rattle.joining.proofs.AnswerLists.{distinct_below, found_none, found_for, found_there, found_new}

module _ {A : Term} {order : List ℕ} {count j : ℕ} (k : FewVars A order count j) where
  pub order_small : (count ≤ variables) × ((x : ℕ) → x < count → get_or order x 0 < variables)
  order_small = (omega (arith, k.few), λ x l. k.variables_few (get_or order x 0) (k.in_order.present x l).0)

  pub few_masks : 2 ^ count ≤ answer_masks
  few_masks = pow_mono {j = 8} k.few

  pub reordered_below : (N q : ℕ) → Reordered order count N q → q < 2 ^ count
  reordered_below N q r = marks_below count q (λ v h. ((r v).0 h).0)

  pub renumbered_below : (N q : ℕ) → Renumbered A (number A) N q → q < 2 ^ count
  renumbered_below N q r = marks_below count q (λ v h. let m = (r v).0 h in subst (λ (x : ℕ). x < count) m.2 (k.in_order.placed m.0 m.1).0)

  pub restored_below : (N q : ℕ) → Restored order count q N → N < masks
  restored_below N q r = marks_below 16 N (λ v h. let m = (r v).0 h in subst (λ (x : ℕ). x < 16) m.2 (order_small.1 m.0 m.1))

  pub restored_own : (N q : ℕ) → Restored order count q N → Own A N
  restored_own N q r v h = let m = (r v).0 h in subst (λ (x : ℕ). Occ x A) m.2 (k.in_order.present m.0 m.1).0

  -- no two answers have one mask
  one_answer : (N N' q : ℕ) → Own A N → Own A N' → Renumbered A (number A) N q → Renumbered A (number A) N' q → N ≡ N'
  one_answer N N' q own own' r r' =
      marks_unique (λ v. (x : ℕ) × (x < count) × (get_or order x 0 ≡ v) × Has q x) N N'
      (renumbered_restored order count N q k.in_order own r) (renumbered_restored order count N' q k.in_order own' r')

  -- distinct answers are no more than the masks of the atom
  pub own_few : (l : List ℕ) → Distinct l → ((N : ℕ) → Memᴰ N l → Own A N) → length l ≤ answer_masks
  own_few l d own =
      let b = distinct_below (map (renumbered_of A (number A)) l) answer_masks
      (distinct_map (renumbered_of A (number A)) l d
      (λ N N' m m' e. one_answer N N' (renumbered_of A (number A) N) (own N m) (own N' m') (renumbered_of_renumbered A (number A) N)
      (subst (λ (x : ℕ). Renumbered A (number A) N' x) (sym e) (renumbered_of_renumbered A (number A) N'))))
      (λ q m.
      let (N, mN, e) = has_map (renumbered_of A (number A)) l m in
      let small = renumbered_below N (renumbered_of A (number A) N) (renumbered_of_renumbered A (number A) N) in
      omega (arith, few_masks, e)) in
      omega (arith, length-map l (renumbered_of A (number A)))

  -- answers put into the set
  pub kept_none : (answers answered : List ℕ) → Gained (Ordered order count (take 0 answers)) (answer_set * j) answer_set answered answered
  kept_none answers answered = gained_none (answer_set * j) answer_set answered (λ q o. Memᴰ.not-nil o.1)

  module _ (answers : List ℕ) (i M : ℕ) (r : Reordered order count (get_or answers i 0) M) where
    pub answer_small : M < answer_masks
    answer_small = omega (arith, few_masks, reordered_below (get_or answers i 0) M r)

    one_more_law : i < length answers → (q : ℕ) → (Ordered order count (take i answers) q ⊎ (q ≡ M)) ↔ Ordered order count (take (i + 1) answers) q
    one_more_law less q = (
      ⊎_elim
          (λ o. (o.0, subst (Memᴰ o.0) (sym parts) (Memᴰ.append_left _ o.1), o.2))
          (λ e. (get_or answers i 0, subst (Memᴰ (get_or answers i 0)) (sym parts) (Memᴰ.append_right (take i answers) (Memᴰ.head refl)), rw e r)),
      λ o. ⊎_elim
          (λ m. inl (o.0, m, o.2))
          (λ m. inr (marks_unique (λ x. (x < count) × Has (get_or answers i 0) (get_or order x 0)) q M (subst (λ (x : ℕ). Reordered order count x q) (Memᴰ.eq_of_singleton m) o.2) r))
          (Memᴰ.append_cases (take i answers) (subst (Memᴰ o.0) parts o.1)),
    )
      where
        parts : take (i + 1) answers ≡ take i answers ++ (get_or answers i 0 ∷ [])
        parts = rw add-one (take-suc answers i 0 less)

    pub kept_one : {answered₀ answered answered' : List ℕ} → i < length answers → Gained (Ordered order count (take i answers)) (answer_set * j) answer_set answered₀ answered
        → (M < answer_masks → Gained (λ q. q ≡ M) (answer_set * j) answer_set answered answered') → Gained (Ordered order count (take (i + 1) answers)) (answer_set * j) answer_set answered₀ answered'
    kept_one less before put = gained_then before (put answer_small) (one_more_law less)

-- answers listed from the set
module _ {order seen₀ answers₀ answered : List ℕ} {count upto j : ℕ} (w : RecallAsked order seen₀ answers₀ answered count upto j) where
  pub recall_none : Found (Recalled order count answered j 0) seen₀ answers₀ upto upto answers₀
  recall_none = found_none w.listing refl (λ N r. omega (arith, r.1))

  module _ {seen answers : List ℕ} {all q : ℕ} (f : Found (Recalled order count answered j q) seen answers upto all answers₀) where
    -- each mask of the atom has one answer at most, so there is room
    pub recall_room : all ≤ answer_masks
    recall_room =
        let l = own_few w.kept (take all answers) f.listing.distinct
        (λ N m. ⊎_elim (w.own N) (λ r. restored_own w.kept N r.0 r.3) ((f.members N).0 m)) in
        omega (arith, length-take-le all answers (omega (arith, f.listing.within, f.listing.list_size)))

    pub recall_not : (AnsweredIn answered j q → ⊥) → Found (Recalled order count answered j (q + 1)) seen answers upto all answers₀
    recall_not n = found_for (λ N. (λ r. (r.0, omega (arith, r.1), r.2, r.3), λ r. at N r.0 r.1 r.2 r.3 (ℕ_discrete r.0 q))) f
      where
        at : (N x : ℕ) → x < q + 1 → AnsweredIn answered j x → Restored order count x N → Dec (x ≡ q) → Recalled order count answered j q N
        at N x l h r (yes e) = absurd (n (subst (AnsweredIn answered j) e h))
        at N x l h r (no o) = (x, omega arith, h, r)

    module _ (h : AnsweredIn answered j q) {m : ℕ} (r : Restored order count q m) where
      one : (N : ℕ) → (Recalled order count answered j q N ⊎ (N ≡ m)) ↔ Recalled order count answered j (q + 1) N
      one N = (
        ⊎_elim (λ o. (o.0, omega (arith, o.1), o.2, o.3)) (λ e. (q, omega arith, h, subst (Restored order count q) (sym e) r)),
        λ o. at o.0 o.1 o.2 o.3 (ℕ_discrete o.0 q),
      )
        where
          at : (x : ℕ) → x < q + 1 → AnsweredIn answered j x → Restored order count x N → Dec (x ≡ q) → Recalled order count answered j q N ⊎ (N ≡ m)
          at x l i s (yes e) = inr (marks_unique (λ v. (y : ℕ) × (y < count) × (get_or order y 0 ≡ v) × Has q y) N m (subst (λ (y : ℕ). Restored order count y N) e s) r)
          at x l i s (no o) = inl (x, omega arith, i, s)

      pub recall_there : {seen' : List ℕ} → length seen' ≡ length seen → Inserted seen seen' m false → Found (Recalled order count answered j (q + 1)) seen' answers upto all answers₀
      recall_there size t = found_for one (found_there f (restored_below w.kept m q r) size t)

      pub recall_new : {seen' : List ℕ} → length seen' ≡ length seen → Inserted seen seen' m true → Found (Recalled order count answered j (q + 1)) seen' (set answers all m) upto (all + 1) answers₀
      recall_new size t = found_for one (found_new f (restored_below w.kept m q r) size (omega (arith, recall_room)) t)
