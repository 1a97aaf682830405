-- The answers of a place that are kept: with those of the rows that are not known yet they are all, and listed from the set they are as they were.
use Prim.Native.Nat.{ℕ, ◌+◌, ◌*◌, ◌^◌, ◌≤◌, ◌<◌}
use native.Mathlib.Omega.{arith}
use native.Mathlib.Decide.{dec_lt}
use mathlib.Core.Path.{◌≡◌, sym, ap, subst, ◌∙◌}
use mathlib.Core.Logic.{◌⊎◌, inl, inr, ⊎_elim, ◌↔◌}
use mathlib.Core.List.{List, Memᴰ}
use lib.ListN.{get_or, set, take, replicate}
use lib.Seq.{take-take}
use Rattle.terms.specs.Term.{Term}
use Rattle.terms.proofs.Masks.{has_none, marks_unique}
use Rattle.terms.proofs.RunVariables.{atom_variables}
use Rattle.terms.specs.Mask.{Has}
use Rattle.marks.specs.Pass.{Pass}
use Rattle.marks.specs.Modes.{InOrder, Restored}
use Rattle.marks.proofs.Modes.{renumbered_of, renumbered_of_renumbered}
use Rattle.marks.proofs.RowMasks.{reordered_renumbered, renumbered_reordered, renumbered_restored}
use Rattle.program.specs.Program.{Program}
use Rattle.program.specs.Shapes.{number}
use Rattle.program.specs.Limits.{row_size}
use Rattle.program.proofs.ShapeLaws.{nth_same}
use Rattle.rows.specs.Rows.{slot_at, mask_at}
use Rattle.rows.specs.KeptSets.{Gained, things, kept_words}
use Rattle.rows.proofs.KeptSets.{keeping_none, keeping_later, keeping_for, known_here, keeping_gained}
use Rattle.program.proofs.FoundLaws.{sound_same}
use Rattle.steps.specs.Situation.{Setting, Situation, BodyOf}
use Rattle.steps.specs.Steps.{Stepped}
use Rattle.steps.proofs.BodyAtoms.{body_atom}
use Rattle.steps.proofs.Stepping.{stepped_within}
use Rattle.joining.specs.Answers.{Answer, Found}
use Rattle.joining.specs.Joined.{ListedFrom, Answered}
use Rattle.joining.specs.KeptAnswers.{answer_vars, answer_set, answer_masks, AnsweredIn, answered_of, OwnAnswer, KeptAtom, AnswersTo, KeepingAnswers, KeepsAnswers, Ordered, Recalled, Own, FewVars}
use Rattle.joining.proofs.KeptMasks.{few_masks, renumbered_below}
use Rattle.joining.proofs.PlaceSteps.{one_body}

same_atom : (p : Program) {j : ℕ} (b b' : BodyOf p j) → b.A ≡ b'.A
same_atom p b b' = let (e, f) = one_body p b b' in nth_same (rw (e, f) at b.nth_atom) b'.nth_atom

-- the marks of an answer are of the atom's own variables
pub answer_own : (p : Program) (table : List ℕ) (A : Term) {from to : ℕ} (N : ℕ) → Answer p table A from to N → Own A N
answer_own p table A N (r, f, l, s, S, hs, e, pass) v h = ⊎_elim (λ z. absurd (has_none v z)) (λ o. o.0) ((pass.result v).0 h)

answer_wider : (p : Program) (table : List ℕ) (A : Term) {from to from' to' N : ℕ} → Answer p table A from to N → from' ≤ from → to ≤ to' → Answer p table A from' to' N
answer_wider p table A (r, f, l, s, S, hs, e, pass) a b = (r, omega arith, omega arith, s, S, hs, e, pass)

answer_split : (p : Program) (table : List ℕ) (A : Term) {rows N : ℕ} (known : ℕ) → Answer p table A 0 rows N → Answer p table A 0 known N ⊎ Answer p table A known rows N
answer_split p table A {rows} {N} known (r, f, l, s, S, hs, e, pass) = at (dec_lt r known)
  where
    at : Dec (r < known) → Answer p table A 0 known N ⊎ Answer p table A known rows N
    at (yes h) = inl (r, f, h, s, S, hs, e, pass)
    at (no h) = inr (r, omega arith, l, s, S, hs, e, pass)

-- words say one program
pub keeps_answers : {words dir : List ℕ} {p : Program} (table answered : List ℕ) (n : ℕ) → Setting words dir p → KeepingAnswers p table answered n → KeepsAnswers words dir table answered n
keeps_answers table answered n s h p' s' = subst (λ (x : Program). KeepingAnswers x table answered n) (sound_same _ s.accepted s'.accepted) h

module _ {words dir table heads : List ℕ} {since rows j : ℕ} (w : Situation words dir table heads since rows) (b : BodyOf w.p j) where
  pub few_vars : {order : List ℕ} {count : ℕ} → InOrder b.A (number b.A) order count → count ≤ answer_vars → j < things → FewVars b.A order count j
  few_vars o l n = record { in_order = o; variables_few = atom_variables (body_atom w.setting b); few = l; near = n }

  module _ {order : List ℕ} {count : ℕ} (k : FewVars b.A order count j) where
    module _ {answered answered' : List ℕ} {known : ℕ} {fresh all : List ℕ} (s : KeepingAnswers w.p table answered rows) (early : known ≤ answered_of answered j)
        (listed : ListedFrom w.p table b.A known since rows fresh all) (g : Gained (Ordered order count all) (answer_set * j) answer_set answered answered')
        {x : ℕ} (x-is : x ≡ rows) where
      its_answers : (q : ℕ) → q < answer_masks → AnsweredIn answered' j q ↔ OwnAnswer w.p table b.A x q
      its_answers q l = rw x-is (
        λ h. ⊎_elim
            (λ o. let a = (s.sets.members j (k.near, b) q l).0 o in (a.0, answer_wider w.p table b.A a.1 (omega arith) (s.sets.known_within j (k.near, b)), a.2))
            (λ n. (n.0, answer_wider w.p table b.A ((listed.are n.0).0 n.1) (omega arith) (omega arith), reordered_renumbered order count n.0 q k.in_order n.2))
            ((g.members q l).0 h),
        λ a. (g.members q l).1 (⊎_elim
            (λ o. inl ((s.sets.members j (k.near, b) q l).1 (a.0, answer_wider w.p table b.A o (omega arith) early, a.2)))
            (λ n. inr (a.0, (listed.are a.0).1 n, renumbered_reordered order count a.0 q k.in_order a.2))
            (answer_split w.p table b.A known a.1)),
      )

      -- the answers that are new are kept, and all rows so far are known
      pub keeping_answered : KeepingAnswers w.p table (set answered' (answer_set * things + j) x) rows
      keeping_answered = record {
        sets = keeping_gained answer_set (KeptAtom w.p) (λ j' atom. atom.0) s.sets.every_word j k.near g x s.sets (omega arith)
            (λ atom q l. subst (λ (A : Term). AnsweredIn answered' j q ↔ OwnAnswer w.p table A x q) (same_atom w.p b atom.1) (its_answers q l));
      }

      pub known_answered : answered_of (set answered' (answer_set * things + j) x) j ≡ rows
      known_answered = known_here answer_set (KeptAtom w.p) (λ j' atom. atom.0) s.sets.every_word j k.near g x ∙ x-is

    module _ (answers : List ℕ) {known : ℕ} (fresh all : ℕ) {newest : ℕ} (listed : ListedFrom w.p table b.A known since rows (take fresh answers) (take all answers)) where
      -- no cont row is new
      pub answered_new : newest ≤ since → Answered w.p table b.A since rows newest (take fresh answers) (take all answers)
      answered_new l = record { fresh_are = listed.fresh_are; all_are = λ q m. answer_wider w.p table b.A ((listed.are q).0 m) (omega arith) (omega arith); all_new = λ late. absurd (omega arith) }

      -- the kept answers are listed behind the others
      pub answered_recalled : fresh ≤ all → {answered : List ℕ} → KeepingAnswers w.p table answered rows → answered_of answered j ≡ rows → {seen' answers' : List ℕ} {all' : ℕ}
          → Found (Recalled order count answered j (2 ^ count)) seen' answers' all all' answers → Answered w.p table b.A since rows newest (take fresh answers') (take all' answers')
      answered_recalled few {answered} s e {answers' = answers'} f =
          record {
            fresh_are = λ q. subst (λ (x : List ℕ). Memᴰ q x ↔ Answer w.p table b.A since rows q) (sym front) (listed.fresh_are q);
            all_are = λ q m. ⊎_elim (λ n. answer_wider w.p table b.A ((listed.are q).0 n) (omega arith) (omega arith)) (λ r. out q r.0 r.1 r.2 r.3) ((f.members q).0 m);
            all_new = λ late q a. (f.members q).1 (inr (into q a));
          }
        where
          front : take fresh answers' ≡ take fresh answers
          front = sym (take-take fresh all answers' few) ∙ ap (take fresh) f.keeps ∙ take-take fresh all answers few

          out : (N q : ℕ) → q < 2 ^ count → AnsweredIn answered j q → Restored order count q N → Answer w.p table b.A 0 rows N
          out N q small h r =
              let a = (s.sets.members j (k.near, b) q (omega (arith, few_masks k))).0 h in
              let same : N ≡ a.0 = marks_unique (λ v. (x : ℕ) × (x < count) × (get_or order x 0 ≡ v) × Has q x) N a.0 r (renumbered_restored order count a.0 q k.in_order (answer_own w.p table b.A a.0 a.1) a.2) in
              subst (λ (x : ℕ). Answer w.p table b.A 0 x N) e (subst (Answer w.p table b.A 0 (answered_of answered j)) (sym same) a.1)

          into : (N : ℕ) → Answer w.p table b.A 0 rows N → Recalled order count answered j (2 ^ count) N
          into N a =
              let n = renumbered_of_renumbered b.A (number b.A) N in
              let small = renumbered_below k N (renumbered_of b.A (number b.A) N) n in (
                renumbered_of b.A (number b.A) N,
                small,
                (s.sets.members j (k.near, b) (renumbered_of b.A (number b.A) N) (omega (arith, few_masks k))).1 (N, subst (λ (x : ℕ). Answer w.p table b.A 0 x N) (sym e) a, n),
                renumbered_restored order count N (renumbered_of b.A (number b.A) N) k.in_order (answer_own w.p table b.A N a) n,
              )

-- what is kept stays as the table grows
pub answers_stay : (p : Program) (table table' answered : List ℕ) (n : ℕ) → ((r : ℕ) → r < n → (slot_at table' r ≡ slot_at table r) × (mask_at table' r ≡ mask_at table r))
    → KeepingAnswers p table answered n → KeepingAnswers p table' answered n
answers_stay p table table' answered n same s = record {
  sets = keeping_for answer_set (KeptAtom p) (λ j atom. atom.0)
      (λ j atom m q l. (
        λ a. (a.0, over table table' same atom.1.A m a.0 l a.1, a.2),
        λ a. (a.0, over table' table (λ r h. (sym (same r h).0, sym (same r h).1)) atom.1.A m a.0 l a.1, a.2),
      ))
      s.sets;
}
  where
    over : (t t' : List ℕ) → ((r : ℕ) → r < n → (slot_at t' r ≡ slot_at t r) × (mask_at t' r ≡ mask_at t r)) → (A : Term) (to N : ℕ) → to ≤ n → Answer p t A 0 to N → Answer p t' A 0 to N
    over t t' same A to N le (r, f, l, s, S, hs, e, pass) =
        let (e', m) = same r (omega arith) in
        (r, f, l, s, S, hs, e' ∙ e, subst (λ (x : ℕ). Pass S x A 0 N) (sym m) pass)

pub answers_later : (p : Program) (table answered : List ℕ) (n n' : ℕ) → n ≤ n' → KeepingAnswers p table answered n → KeepingAnswers p table answered n'
answers_later p table answered n n' b s = record { sets = keeping_later answer_set (KeptAtom p) (λ j atom. atom.0) b s.sets }

-- the table of a step has the rows that are known
pub step_keeps_answers : (p : Program) (May : ℕ → Type 0) (round room n n' rows : ℕ) (table buckets table' buckets' answered : List ℕ) (Must : ℕ → Type 0) → rows ≤ n
    → Stepped May round room n table buckets Must n' table' buckets' → n' ≤ room → KeepingAnswers p table answered rows → KeepingAnswers p table' answered rows
step_keeps_answers p May round room n n' rows table buckets table' buckets' answered Must l step within =
    let g = stepped_within May round room n n' table buckets table' buckets' Must step within in
    answers_stay p table table' answered rows (λ r h. (g.same_rows (row_size * r + 1) (omega arith), g.same_rows (row_size * r + 2) (omega arith)))

-- with all words 0 nothing is kept, of no rows
pub answers_none : (p : Program) (table answered : List ℕ) (n : ℕ) → answered ≡ replicate (kept_words answer_set) 0 → KeepingAnswers p table answered n
answers_none p table answered n e = record { sets = keeping_none answer_set (KeptAtom p) (λ j atom. atom.0) (AnswersTo p table) answered n (λ j atom q a. omega (arith, a.1.2)) e }
