-- `end_kept` meets its contract: kept marks have gone to the call rows that are known, so they go to the others, and new marks to all. Assumes nothing.
use Prim.Native.Nat.{ℕ, ◌+◌, ◌-◌, ◌*◌, ◌%◌, ◌^◌, ◌≤◌}
use native.Mathlib.Omega.{arith}
use mathlib.Core.Path.{◌≡◌, refl, ap, ◌∙◌}
use lib.ListN.{length, get_or, take, drop, replicate, length-replicate}
use Rattle.directory.specs.Layout.{clause_vars}
use Rattle.rows.specs.MaskSet.{set_words}
use Rattle.rows.proofs.ClearedMarks.{marks_shifted}
use Rattle.steps.specs.Situation.{HeadAsked}
use Rattle.steps.specs.Heads.{HeadMark, Collected, FoundOn}
use Rattle.ends.specs.AtHead.{AtHead}
use Rattle.rows.specs.KeptSets.{known_of}
use Rattle.ends.specs.Ends.{Scratch}
use Rattle.ends.specs.Keeping.{kept_set}
use Rattle.ends.proofs.ClauseRows.{clause_few, vars_few, asked_since}
use Rattle.ends.proofs.HeadMarks.{marked_empty}
use Rattle.ends.proofs.KeptMarks.{kept_on}
use Rattle.ends.proofs.Endings.{new_all, new_none}
use Rattle.clauses.proofs.HeadSteps.{on_ok, answers_after, works_after}
use Rattle.clauses.proofs.KeptEnds.{earlier, kept_below, kept_stepped, kept_after}
use Rattle.clauses.proofs.kept.end_kept.Goals as goal
use Rattle.clauses.proofs.kept.end_kept.Goals.{else-take_kept, then-take_kept}

pub overflow_add-k-2 : goal.overflow_add-k-2
overflow_add-k-2 c = let w = c.requires.0 in let few = clause_few _ _ _ _ _ _ _ w in omega (arith, few.0, few.1, (c.requires.1.marks w.situation.p w.situation.setting).sets.every_word)

pub offset_bounds-work-k : goal.offset_bounds-work-k
offset_bounds-work-k c = let w = c.requires.0 in let few = clause_few _ _ _ _ _ _ _ w in omega (arith, few.0, few.1, (c.requires.1.marks w.situation.p w.situation.setting).sets.every_word)

pub bounds-work-k : goal.bounds-work-k
bounds-work-k c = let w = c.requires.0 in let few = clause_few _ _ _ _ _ _ _ w in omega (arith, few.0, few.1, (c.requires.1.marks w.situation.p w.situation.setting).sets.every_word)

pub take_kept-requires : goal.take_kept-requires
take_kept-requires c = let w = c.requires.0 in (omega (arith, c.head_marks.auto.found ∙ ap length c.requires.1.scratch.none_found ∙ length-replicate {A = ℕ} set_words 0), omega (arith, (clause_few _ _ _ _ _ _ _ w).0, (c.requires.1.marks w.situation.p w.situation.setting).sets.every_word))

pub overflow_mul-first : goal.overflow_mul-first
overflow_mul-first c = let w = c.requires.0 in let few = clause_few _ _ _ _ _ _ _ w in omega (arith, few.0, few.1, (c.requires.1.marks w.situation.p w.situation.setting).sets.every_word)

pub overflow_add-end : goal.overflow_add-end
overflow_add-end c = let w = c.requires.0 in let few = clause_few _ _ _ _ _ _ _ w in omega (arith, few.0, few.1, (c.requires.1.marks w.situation.p w.situation.setting).sets.every_word)

pub offset_bounds-kept-first : goal.offset_bounds-kept-first
offset_bounds-kept-first c = let w = c.requires.0 in let few = clause_few _ _ _ _ _ _ _ w in omega (arith, few.0, few.1, (c.requires.1.marks w.situation.p w.situation.setting).sets.every_word)

pub slice_bounds-at_head-end : goal.slice_bounds-at_head-end
slice_bounds-at_head-end c = let w = c.requires.0 in let few = clause_few _ _ _ _ _ _ _ w in omega (arith, few.0, few.1, (c.requires.1.marks w.situation.p w.situation.setting).sets.every_word)

pub head_marks-requires : goal.head_marks-requires
head_marks-requires c = let early : (c.min-known.result ≤ c.args.at.since) × (c.min-known.result ≤ known_of kept_set c.args.work.now.kept c.args.k) = earlier _ _ _ _ c.from.ensures c.min-known.ensures in
    (asked_since _ _ _ _ _ _ _ c.requires.0 _ (omega (arith, early.0, c.requires.0.situation.chains.new)), c.requires.1.scratch.none_found, c.requires.1.scratch.all_answers, c.requires.1.answers, c.requires.3)

pub keep_masks-requires : goal.keep_masks-requires
keep_masks-requires c = let early : (c.min-known.result ≤ c.args.at.since) × (c.min-known.result ≤ known_of kept_set c.args.work.now.kept c.args.k) = earlier _ _ _ _ c.from.ensures c.min-known.ensures in
    let marks-found : (w : HeadAsked c.args.program.now.words.now c.args.program.now.dir.now c.args.table.now c.args.heads.now c.args.at.since c.args.at.rows c.args.k)
    → Collected (HeadMark w.situation.p c.args.table.now c.min-known.result c.args.at.rows c.args.k (length w.clause.c.body)) (replicate set_words 0) c.head_marks.new.found = λ w. marked_empty _ _ _ c.requires.1.scratch.none_found (c.head_marks.ensures.1 (asked_since _ _ _ _ _ _ _ w _ (omega (arith, early.0, w.situation.chains.new)))).0 in
    let w = c.requires.0 in (omega (arith, c.take_kept.ensures.0.as_long ∙ (marks-found w).size), omega (arith, (clause_few _ _ _ _ _ _ _ w).0, (c.requires.1.marks w.situation.p w.situation.setting).sets.every_word))

pub bounds-work-k-2 : goal.bounds-work-k-2
bounds-work-k-2 c = let few = clause_few _ _ _ _ _ _ _ c.requires.0 in omega (arith, few.0, few.1)

pub returns : goal.returns
returns c = let early : (c.min-known.result ≤ c.args.at.since) × (c.min-known.result ≤ known_of kept_set c.args.work.now.kept c.args.k) = earlier _ _ _ _ c.from.ensures c.min-known.ensures in
    let marks-found : (w : HeadAsked c.args.program.now.words.now c.args.program.now.dir.now c.args.table.now c.args.heads.now c.args.at.since c.args.at.rows c.args.k)
    → Collected (HeadMark w.situation.p c.args.table.now c.min-known.result c.args.at.rows c.args.k (length w.clause.c.body)) (replicate set_words 0) c.head_marks.new.found = λ w. marked_empty _ _ _ c.requires.1.scratch.none_found (c.head_marks.ensures.1 (asked_since _ _ _ _ _ _ _ w _ (omega (arith, early.0, w.situation.chains.new)))).0 in
    let all-masks : 1 * 2 ^ c.from-all.result % 18446744073709551616 ≡ 2 ^ get_or c.args.program.now.dir.now (clause_vars + c.args.k) 0 = (marks_shifted c.from-all.result (omega (arith, c.from-all.ensures, vars_few _ _ _ _ _ _ _ c.requires.0))).0 ∙ ap (λ (x : ℕ). 2 ^ x) c.from-all.ensures in
    let collected : (w : HeadAsked c.args.program.now.words.now c.args.program.now.dir.now c.args.table.now c.args.heads.now c.args.at.since c.args.at.rows c.args.k) → FoundOn w.situation.p c.args.table.now c.args.at.rows c.args.k (length w.clause.c.body) c.take_kept.new.found c.if-take_kept.marks = λ w. let kept = c.requires.1.marks w.situation.p w.situation.setting in
    (elim c.if-take_kept.branch [ then-take_kept z ↦ rw z.marks-is (new_all _ _ _ _ _ _ _ w _ kept c.requires.2 _ _ refl refl _ early.1 _ _ (marks-found w) c.take_kept.ensures.0 _ all-masks) | else-take_kept z ↦ rw z.marks-is (new_none _ _ _ _ _ _ _ w _ kept c.requires.2 _ _ refl refl _ early.1 _ _ (marks-found w) c.take_kept.ensures.0 _ refl (λ q h. rw z.if-take_kept.false at (c.take_kept.ensures.1 q h))) ]) in
    let asked : (w : HeadAsked c.args.program.now.words.now c.args.program.now.dir.now c.args.table.now c.args.heads.now c.args.at.since c.args.at.rows c.args.k)
    → AtHead c.args.program.now.words.now c.args.program.now.dir.now c.args.table.now c.args.heads.now (take (32 * c.args.k + 32 - 32 * c.args.k) (drop (32 * c.args.k) c.args.work.now.kept)) c.take_kept.new.found c.min-known.result c.args.at.rows c.args.k (1 * 2 ^ c.from-all.result % 18446744073709551616) c.if-take_kept.marks = λ w. record { head = asked_since _ _ _ _ _ _ _ w _ (omega (arith, early.0, w.situation.chains.new)); known_on = kept_on _ _ _ _ _ _ _ w _ (c.requires.1.marks w.situation.p w.situation.setting) c.requires.2 _ _ refl refl _ all-masks; found_on = collected w } in
    let a = c.args in
    let w₀ = c.requires.0 in
    let known = c.min-known.result in
    let found = c.head_marks.new.found in
    let scratch : Scratch _ _ = record {
      all_answers = c.at_head-rows.auto.solved ∙ c.head_marks.auto.answers ∙ c.requires.1.scratch.all_answers;
      none_found = c.empty_found.ensures;
    } in record {
      scratch = scratch;
      stepped = λ w. kept_stepped a.program.now.words.now a.program.now.dir.now a.table.now a.heads.now a.at.since a.at.rows a.k w a.work.now.kept a.n c.requires.1.marks c.requires.2 known early found c.take_kept.new.found (marks-found w) c.take_kept.ensures.0
          a.work.now.buckets a.at.number a.at.room _ c.at_head-rows.new.table c.at_head-rows.new.buckets (c.at_head-rows.ensures.stepped (asked w)) c.requires.1.writable;
      works = works_after _ _ _ _ _ _ w₀.situation _ a.at.number _ _ _ _ c.at_head-rows.result c.requires.1.behind c.at_head-rows.ensures.within (c.at_head-rows.ensures.stepped (asked w₀)) _ refl scratch
          (on_ok c.at_head-rows.result (λ m is. kept_after a.program.now.words.now a.program.now.dir.now a.table.now a.heads.now a.at.since a.at.rows a.k w₀ a.work.now.kept a.n c.requires.1.marks c.requires.2 known early found c.take_kept.new.found (marks-found w₀) c.take_kept.ensures.0
          a.work.now.buckets a.at.number a.at.room _ c.at_head-rows.new.table c.at_head-rows.new.buckets (rw is at (c.at_head-rows.ensures.stepped (asked w₀))) c.requires.1.behind (rw is at c.at_head-rows.ensures.within) c.keep_masks.new.kept c.keep_masks.ensures c.narrow.result c.narrow.ensures))
          (answers_after _ _ _ _ _ _ w₀.situation _ a.at.number _ _ _ _ c.at_head-rows.result c.requires.1.behind c.at_head-rows.ensures.within (c.at_head-rows.ensures.stepped (asked w₀)) c.head_marks.new.answered c.head_marks.ensures.0);
    }

pub at_head-rows-requires : goal.at_head-rows-requires
at_head-rows-requires c = let early : (c.min-known.result ≤ c.args.at.since) × (c.min-known.result ≤ known_of kept_set c.args.work.now.kept c.args.k) = earlier _ _ _ _ c.from.ensures c.min-known.ensures in
    let marks-found : (w : HeadAsked c.args.program.now.words.now c.args.program.now.dir.now c.args.table.now c.args.heads.now c.args.at.since c.args.at.rows c.args.k)
    → Collected (HeadMark w.situation.p c.args.table.now c.min-known.result c.args.at.rows c.args.k (length w.clause.c.body)) (replicate set_words 0) c.head_marks.new.found = λ w. marked_empty _ _ _ c.requires.1.scratch.none_found (c.head_marks.ensures.1 (asked_since _ _ _ _ _ _ _ w _ (omega (arith, early.0, w.situation.chains.new)))).0 in
    let all-masks : 1 * 2 ^ c.from-all.result % 18446744073709551616 ≡ 2 ^ get_or c.args.program.now.dir.now (clause_vars + c.args.k) 0 = (marks_shifted c.from-all.result (omega (arith, c.from-all.ensures, vars_few _ _ _ _ _ _ _ c.requires.0))).0 ∙ ap (λ (x : ℕ). 2 ^ x) c.from-all.ensures in
    let collected : (w : HeadAsked c.args.program.now.words.now c.args.program.now.dir.now c.args.table.now c.args.heads.now c.args.at.since c.args.at.rows c.args.k) → FoundOn w.situation.p c.args.table.now c.args.at.rows c.args.k (length w.clause.c.body) c.take_kept.new.found c.if-take_kept.marks = λ w. let kept = c.requires.1.marks w.situation.p w.situation.setting in
    (elim c.if-take_kept.branch [ then-take_kept z ↦ rw z.marks-is (new_all _ _ _ _ _ _ _ w _ kept c.requires.2 _ _ refl refl _ early.1 _ _ (marks-found w) c.take_kept.ensures.0 _ all-masks) | else-take_kept z ↦ rw z.marks-is (new_none _ _ _ _ _ _ _ w _ kept c.requires.2 _ _ refl refl _ early.1 _ _ (marks-found w) c.take_kept.ensures.0 _ refl (λ q h. rw z.if-take_kept.false at (c.take_kept.ensures.1 q h))) ]) in
    let asked : (w : HeadAsked c.args.program.now.words.now c.args.program.now.dir.now c.args.table.now c.args.heads.now c.args.at.since c.args.at.rows c.args.k)
    → AtHead c.args.program.now.words.now c.args.program.now.dir.now c.args.table.now c.args.heads.now (take (32 * c.args.k + 32 - 32 * c.args.k) (drop (32 * c.args.k) c.args.work.now.kept)) c.take_kept.new.found c.min-known.result c.args.at.rows c.args.k (1 * 2 ^ c.from-all.result % 18446744073709551616) c.if-take_kept.marks = λ w. record { head = asked_since _ _ _ _ _ _ _ w _ (omega (arith, early.0, w.situation.chains.new)); known_on = kept_on _ _ _ _ _ _ _ w _ (c.requires.1.marks w.situation.p w.situation.setting) c.requires.2 _ _ refl refl _ all-masks; found_on = collected w } in
    (asked c.requires.0, c.requires.1.writable, c.requires.1.behind, c.head_marks.auto.answers ∙ c.requires.1.scratch.all_answers, c.head_marks.ensures.2)

pub empty_found-requires : goal.empty_found-requires
empty_found-requires c = let early : (c.min-known.result ≤ c.args.at.since) × (c.min-known.result ≤ known_of kept_set c.args.work.now.kept c.args.k) = earlier _ _ _ _ c.from.ensures c.min-known.ensures in
    let marks-found : (w : HeadAsked c.args.program.now.words.now c.args.program.now.dir.now c.args.table.now c.args.heads.now c.args.at.since c.args.at.rows c.args.k)
    → Collected (HeadMark w.situation.p c.args.table.now c.min-known.result c.args.at.rows c.args.k (length w.clause.c.body)) (replicate set_words 0) c.head_marks.new.found = λ w. marked_empty _ _ _ c.requires.1.scratch.none_found (c.head_marks.ensures.1 (asked_since _ _ _ _ _ _ _ w _ (omega (arith, early.0, w.situation.chains.new)))).0 in
    let all-masks : 1 * 2 ^ c.from-all.result % 18446744073709551616 ≡ 2 ^ get_or c.args.program.now.dir.now (clause_vars + c.args.k) 0 = (marks_shifted c.from-all.result (omega (arith, c.from-all.ensures, vars_few _ _ _ _ _ _ _ c.requires.0))).0 ∙ ap (λ (x : ℕ). 2 ^ x) c.from-all.ensures in
    let collected : (w : HeadAsked c.args.program.now.words.now c.args.program.now.dir.now c.args.table.now c.args.heads.now c.args.at.since c.args.at.rows c.args.k) → FoundOn w.situation.p c.args.table.now c.args.at.rows c.args.k (length w.clause.c.body) c.take_kept.new.found c.if-take_kept.marks = λ w. let kept = c.requires.1.marks w.situation.p w.situation.setting in
    (elim c.if-take_kept.branch [ then-take_kept z ↦ rw z.marks-is (new_all _ _ _ _ _ _ _ w _ kept c.requires.2 _ _ refl refl _ early.1 _ _ (marks-found w) c.take_kept.ensures.0 _ all-masks) | else-take_kept z ↦ rw z.marks-is (new_none _ _ _ _ _ _ _ w _ kept c.requires.2 _ _ refl refl _ early.1 _ _ (marks-found w) c.take_kept.ensures.0 _ refl (λ q h. rw z.if-take_kept.false at (c.take_kept.ensures.1 q h))) ]) in
    let a = c.args in
    let w = c.requires.0 in
    (c.take_kept.ensures.0.as_long ∙ (marks-found w).size, omega arith, kept_below a.program.now.words.now a.program.now.dir.now a.table.now a.heads.now a.at.since a.at.rows a.k w a.work.now.kept a.n c.requires.1.marks c.requires.2 c.min-known.result early c.head_marks.new.found c.take_kept.new.found (marks-found w) c.take_kept.ensures.0 c.if-take_kept.marks (collected w))
