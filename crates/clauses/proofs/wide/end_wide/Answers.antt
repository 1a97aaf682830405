-- `end_wide` meets its contract: where a call row is new, the set has all marks that result, else those of a new row. Assumes nothing.
use Prim.Native.Nat.{ℕ, ◌^◌, ◌≤◌}
use native.Mathlib.Omega.{arith}
use native.Mathlib.Nat.{le_refl}
use mathlib.Core.Path.{◌≡◌, refl, ap, ◌∙◌}
use mathlib.Core.List.{[]}
use lib.ListN.{length, get_or, replicate}
use Rattle.directory.specs.Directory.{predicate_of}
use Rattle.rows.specs.MaskSet.{set_words}
use Rattle.rows.proofs.ClearedMarks.{marks_shifted}
use Rattle.steps.specs.Situation.{HeadAsked}
use Rattle.steps.specs.Since.{SinceIn}
use Rattle.steps.specs.Heads.{HeadMark, Collected, FoundOn}
use Rattle.steps.proofs.Stepping.{stepped_must}
use Rattle.ends.specs.Ends.{Scratch}
use Rattle.ends.specs.AtHead.{AtHead}
use Rattle.ends.proofs.ClauseRows.{vars_few, head_there, head_predicate, predicate_asked, asked_since}
use Rattle.ends.proofs.HeadMarks.{marked_empty, empty_on, found_holds, found_all, found_none}
use Rattle.ends.proofs.Endings.{wide_ends}
use Rattle.clauses.proofs.HeadSteps.{marks_after, answers_after, works_after}
use Rattle.clauses.proofs.wide.end_wide.Goals as goal
use Rattle.clauses.proofs.wide.end_wide.Goals.{then-any_since, else-any_since, then-marked, else-marked}

pub bounds-program-from : goal.bounds-program-from
bounds-program-from c = rw c.from.ensures (head_there _ _ _ _ _ _ _ c.requires.0)

pub any_since-requires : goal.any_since-requires
any_since-requires c = predicate_asked _ _ _ _ _ _ _ c.requires.0 _ (rw c.from.ensures at c.from-predicate.ensures)

pub at_head-rows-requires : goal.at_head-rows-requires
at_head-rows-requires c = let early : (c.if-any_since.since ≤ c.args.at.since)
    × ((w : HeadAsked c.args.program.now.words.now c.args.program.now.dir.now c.args.table.now c.args.heads.now c.args.at.since c.args.at.rows c.args.k) → SinceIn w.situation.p c.args.heads.now (predicate_of w.clause.c.head) 0 c.args.at.since → c.if-any_since.since ≡ 0) = (elim c.if-any_since.branch [
      | then-any_since z ↦ rw z.since-is (omega arith, λ w h. refl)
      | else-any_since z ↦ rw z.since-is (
        omega arith,
        λ w h.
            let predicate = c.from-predicate.ensures ∙ ap (λ (x : ℕ). get_or c.args.program.now.words.now x 0) c.from.ensures ∙ head_predicate _ _ _ _ _ _ _ w in
            absurd (rw z.if-any_since.false at ((c.any_since.ensures _ _ w.situation.setting).1 (rw predicate h))),
      )
    ]) in
    let new-marks : (w : HeadAsked c.args.program.now.words.now c.args.program.now.dir.now c.args.table.now c.args.heads.now c.args.at.since c.args.at.rows c.args.k)
    → Collected (HeadMark w.situation.p c.args.table.now c.if-any_since.since c.args.at.rows c.args.k (length w.clause.c.body)) (replicate set_words 0) c.head_marks-marked.new.found = λ w. marked_empty _ _ _ c.requires.1.scratch.none_found (c.head_marks-marked.ensures.1 (asked_since _ _ _ _ _ _ _ w _ (omega (arith, early.0, w.situation.chains.new)))).0 in
    let collected : (w : HeadAsked c.args.program.now.words.now c.args.program.now.dir.now c.args.table.now c.args.heads.now c.args.at.since c.args.at.rows c.args.k) → FoundOn w.situation.p c.args.table.now c.args.at.rows c.args.k (length w.clause.c.body) c.head_marks-marked.new.found c.if-marked.marks = λ w. (elim c.if-marked.branch [
      | then-marked z ↦ rw z.marks-is (found_all _ _ _ _ _ _ _ w _ _ (le_refl _) _ (new-marks w) _
          ((marks_shifted z.from-then-marked.result (omega (arith, z.from-then-marked.ensures, vars_few _ _ _ _ _ _ _ w))).0 ∙ ap (λ (x : ℕ). 2 ^ x) z.from-then-marked.ensures))
      | else-marked z ↦ rw z.marks-is (found_none _ _ _ _ _ _ _ w _ _ (le_refl _) _ (new-marks w) _ refl
          (λ q h. rw z.if-marked.false at ((c.head_marks-marked.ensures.1 (asked_since _ _ _ _ _ _ _ w _ (omega (arith, early.0, w.situation.chains.new)))).1 q h)))
    ]) in
    let asked : (w : HeadAsked c.args.program.now.words.now c.args.program.now.dir.now c.args.table.now c.args.heads.now c.args.at.since c.args.at.rows c.args.k)
    → AtHead c.args.program.now.words.now c.args.program.now.dir.now c.args.table.now c.args.heads.now [] c.head_marks-marked.new.found c.args.at.since c.args.at.rows c.args.k 0 c.if-marked.marks = λ w. record { head = w; known_on = empty_on _ _ _ _ _; found_on = collected w } in
    (asked c.requires.0, c.requires.1.writable, c.requires.1.behind, c.head_marks-marked.auto.answers ∙ c.requires.1.scratch.all_answers, c.head_marks-marked.ensures.2)

pub returns : goal.returns
returns c = let early : (c.if-any_since.since ≤ c.args.at.since)
    × ((w : HeadAsked c.args.program.now.words.now c.args.program.now.dir.now c.args.table.now c.args.heads.now c.args.at.since c.args.at.rows c.args.k) → SinceIn w.situation.p c.args.heads.now (predicate_of w.clause.c.head) 0 c.args.at.since → c.if-any_since.since ≡ 0) = (elim c.if-any_since.branch [
      | then-any_since z ↦ rw z.since-is (omega arith, λ w h. refl)
      | else-any_since z ↦ rw z.since-is (
        omega arith,
        λ w h.
            let predicate = c.from-predicate.ensures ∙ ap (λ (x : ℕ). get_or c.args.program.now.words.now x 0) c.from.ensures ∙ head_predicate _ _ _ _ _ _ _ w in
            absurd (rw z.if-any_since.false at ((c.any_since.ensures _ _ w.situation.setting).1 (rw predicate h))),
      )
    ]) in
    let new-marks : (w : HeadAsked c.args.program.now.words.now c.args.program.now.dir.now c.args.table.now c.args.heads.now c.args.at.since c.args.at.rows c.args.k)
    → Collected (HeadMark w.situation.p c.args.table.now c.if-any_since.since c.args.at.rows c.args.k (length w.clause.c.body)) (replicate set_words 0) c.head_marks-marked.new.found = λ w. marked_empty _ _ _ c.requires.1.scratch.none_found (c.head_marks-marked.ensures.1 (asked_since _ _ _ _ _ _ _ w _ (omega (arith, early.0, w.situation.chains.new)))).0 in
    let collected : (w : HeadAsked c.args.program.now.words.now c.args.program.now.dir.now c.args.table.now c.args.heads.now c.args.at.since c.args.at.rows c.args.k) → FoundOn w.situation.p c.args.table.now c.args.at.rows c.args.k (length w.clause.c.body) c.head_marks-marked.new.found c.if-marked.marks = λ w. (elim c.if-marked.branch [
      | then-marked z ↦ rw z.marks-is (found_all _ _ _ _ _ _ _ w _ _ (le_refl _) _ (new-marks w) _
          ((marks_shifted z.from-then-marked.result (omega (arith, z.from-then-marked.ensures, vars_few _ _ _ _ _ _ _ w))).0 ∙ ap (λ (x : ℕ). 2 ^ x) z.from-then-marked.ensures))
      | else-marked z ↦ rw z.marks-is (found_none _ _ _ _ _ _ _ w _ _ (le_refl _) _ (new-marks w) _ refl
          (λ q h. rw z.if-marked.false at ((c.head_marks-marked.ensures.1 (asked_since _ _ _ _ _ _ _ w _ (omega (arith, early.0, w.situation.chains.new)))).1 q h)))
    ]) in
    let asked : (w : HeadAsked c.args.program.now.words.now c.args.program.now.dir.now c.args.table.now c.args.heads.now c.args.at.since c.args.at.rows c.args.k)
    → AtHead c.args.program.now.words.now c.args.program.now.dir.now c.args.table.now c.args.heads.now [] c.head_marks-marked.new.found c.args.at.since c.args.at.rows c.args.k 0 c.if-marked.marks = λ w. record { head = w; known_on = empty_on _ _ _ _ _; found_on = collected w } in
    let s = c.requires.0.situation in
    let works = c.requires.1 in
    let step = c.at_head-rows.ensures.stepped (asked c.requires.0) in
    let within = c.at_head-rows.ensures.within in
    let scratch : Scratch _ _ = record {
      all_answers = c.at_head-rows.auto.solved ∙ c.head_marks-marked.auto.answers ∙ c.requires.1.scratch.all_answers;
      none_found = c.empty_found.ensures;
    } in record {
      scratch = scratch;
      stepped = λ w. stepped_must _ c.args.at.number _ _ _ _ _ _ _ _ _
          (wide_ends _ _ _ _ _ _ _ w _ _ _ early.0 (early.1 w) (found_holds _ _ _ _ _ _ _ w _ _ (le_refl _) _ (new-marks w)))
          (c.at_head-rows.ensures.stepped (asked w));
      works = works_after _ _ _ _ _ _ s _ c.args.at.number _ _ _ _ c.at_head-rows.result works.behind within step _ refl scratch
          (marks_after _ _ _ _ _ _ s _ c.args.at.number _ _ _ _ c.at_head-rows.result works.behind within step _ works.marks)
          (answers_after _ _ _ _ _ _ s _ c.args.at.number _ _ _ _ c.at_head-rows.result works.behind within step _ c.head_marks-marked.ensures.0);
    }

pub head_marks-marked-requires : goal.head_marks-marked-requires
head_marks-marked-requires c = let early : (c.if-any_since.since ≤ c.args.at.since)
    × ((w : HeadAsked c.args.program.now.words.now c.args.program.now.dir.now c.args.table.now c.args.heads.now c.args.at.since c.args.at.rows c.args.k) → SinceIn w.situation.p c.args.heads.now (predicate_of w.clause.c.head) 0 c.args.at.since → c.if-any_since.since ≡ 0) = (elim c.if-any_since.branch [
      | then-any_since z ↦ rw z.since-is (omega arith, λ w h. refl)
      | else-any_since z ↦ rw z.since-is (
        omega arith,
        λ w h.
            let predicate = c.from-predicate.ensures ∙ ap (λ (x : ℕ). get_or c.args.program.now.words.now x 0) c.from.ensures ∙ head_predicate _ _ _ _ _ _ _ w in
            absurd (rw z.if-any_since.false at ((c.any_since.ensures _ _ w.situation.setting).1 (rw predicate h))),
      )
    ]) in
    (asked_since _ _ _ _ _ _ _ c.requires.0 _ (omega (arith, early.0, c.requires.0.situation.chains.new)), c.requires.1.scratch.none_found, c.requires.1.scratch.all_answers, c.requires.1.answers, c.requires.2)

pub empty_found-requires : goal.empty_found-requires
empty_found-requires c = let early : (c.if-any_since.since ≤ c.args.at.since)
    × ((w : HeadAsked c.args.program.now.words.now c.args.program.now.dir.now c.args.table.now c.args.heads.now c.args.at.since c.args.at.rows c.args.k) → SinceIn w.situation.p c.args.heads.now (predicate_of w.clause.c.head) 0 c.args.at.since → c.if-any_since.since ≡ 0) = (elim c.if-any_since.branch [
      | then-any_since z ↦ rw z.since-is (omega arith, λ w h. refl)
      | else-any_since z ↦ rw z.since-is (
        omega arith,
        λ w h.
            let predicate = c.from-predicate.ensures ∙ ap (λ (x : ℕ). get_or c.args.program.now.words.now x 0) c.from.ensures ∙ head_predicate _ _ _ _ _ _ _ w in
            absurd (rw z.if-any_since.false at ((c.any_since.ensures _ _ w.situation.setting).1 (rw predicate h))),
      )
    ]) in
    let new-marks : (w : HeadAsked c.args.program.now.words.now c.args.program.now.dir.now c.args.table.now c.args.heads.now c.args.at.since c.args.at.rows c.args.k)
    → Collected (HeadMark w.situation.p c.args.table.now c.if-any_since.since c.args.at.rows c.args.k (length w.clause.c.body)) (replicate set_words 0) c.head_marks-marked.new.found = λ w. marked_empty _ _ _ c.requires.1.scratch.none_found (c.head_marks-marked.ensures.1 (asked_since _ _ _ _ _ _ _ w _ (omega (arith, early.0, w.situation.chains.new)))).0 in
    let collected : (w : HeadAsked c.args.program.now.words.now c.args.program.now.dir.now c.args.table.now c.args.heads.now c.args.at.since c.args.at.rows c.args.k) → FoundOn w.situation.p c.args.table.now c.args.at.rows c.args.k (length w.clause.c.body) c.head_marks-marked.new.found c.if-marked.marks = λ w. (elim c.if-marked.branch [
      | then-marked z ↦ rw z.marks-is (found_all _ _ _ _ _ _ _ w _ _ (le_refl _) _ (new-marks w) _
          ((marks_shifted z.from-then-marked.result (omega (arith, z.from-then-marked.ensures, vars_few _ _ _ _ _ _ _ w))).0 ∙ ap (λ (x : ℕ). 2 ^ x) z.from-then-marked.ensures))
      | else-marked z ↦ rw z.marks-is (found_none _ _ _ _ _ _ _ w _ _ (le_refl _) _ (new-marks w) _ refl
          (λ q h. rw z.if-marked.false at ((c.head_marks-marked.ensures.1 (asked_since _ _ _ _ _ _ _ w _ (omega (arith, early.0, w.situation.chains.new)))).1 q h)))
    ]) in
    let found = collected c.requires.0 in
    ((new-marks c.requires.0).size, omega (arith, found.few), λ q h. omega (arith, found.below q h))
