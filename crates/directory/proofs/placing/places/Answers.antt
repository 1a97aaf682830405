-- `places` meets its contract: the arities, the clauses and the goal stand one after another. Assumes nothing.
use Prim.Native.Nat.{ℕ, ◌+◌}
use native.Mathlib.Omega.{arith}
use mathlib.Core.Path.{◌≡◌, ap, ◌∙◌}
use lib.ListN.{length}
use Rattle.directory.specs.Said.{said}
use Rattle.directory.specs.Layout.{dir_words, predicates_start}
use Rattle.directory.proofs.AcceptedWords.{said_within, words_short, first_three, predicate_count, function_count, clause_count_law, predicates_are, functions_within, functions_are, clauses_within, clauses_from, goal_from}
use Rattle.directory.proofs.PlacedLaws.{goal_comes, placed}
use Rattle.directory.proofs.placing.places.Goals as goal

pub bounds-words-0 : goal.bounds-words-0
bounds-words-0 c = omega (arith, first_three _ c.requires.0)

pub bounds-words-1 : goal.bounds-words-1
bounds-words-1 c = omega (arith, first_three _ c.requires.0)

pub bounds-words-2 : goal.bounds-words-2
bounds-words-2 c = omega (arith, first_three _ c.requires.0)

pub slice_bounds-declared-end : goal.slice_bounds-declared-end
slice_bounds-declared-end c = let a = c.requires.0 in functions_within _ a (predicates_start + c.from-functions_at.result) (ap (λ (k : ℕ). predicates_start + k) (c.from-functions_at.ensures ∙ predicate_count _ a))

pub slice_bounds-declared-end-2 : goal.slice_bounds-declared-end-2
slice_bounds-declared-end-2 c = let a = c.requires.0 in let fi : predicates_start + c.from-functions_at.result ≡ predicates_start + length (said c.args.words.now).predicates = ap (λ (k : ℕ). predicates_start + k) (c.from-functions_at.ensures ∙ predicate_count _ a) in clauses_within _ a (predicates_start + c.from-functions_at.result) fi (predicates_start + c.from-functions_at.result + c.from.result) (ap (λ (k : ℕ). predicates_start + c.from-functions_at.result + k) (c.from.ensures ∙ function_count _ a))

pub clauses-at-requires : goal.clauses-at-requires
clauses-at-requires c = let a = c.requires.0 in let W = c.args.words.now in let f = predicates_start + c.from-functions_at.result in let at = f + c.from.result in
    let fi : f ≡ predicates_start + length (said W).predicates = ap (λ (k : ℕ). predicates_start + k) (c.from-functions_at.ensures ∙ predicate_count _ a) in
    let ai : at ≡ f + length (said W).functions = ap (λ (k : ℕ). f + k) (c.from.ensures ∙ function_count _ a) in
    let ni : c.from-n.result ≡ length (said W).clauses = c.from-n.ensures ∙ clause_count_law _ a in
    (rw (predicates_are W a f fi, functions_are W a f fi at ai, ni) (clauses_from W a f fi at ai), words_short W a, c.requires.1, rw ni (said_within W a).clauses_most, clauses_within W a f fi at ai, rw (predicates_are W a f fi) (said_within W a).predicates_most)

pub goal-requires : goal.goal-requires
goal-requires c = let a = c.requires.0 in let W = c.args.words.now in let f = predicates_start + c.from-functions_at.result in let at = f + c.from.result in
    let fi : f ≡ predicates_start + length (said W).predicates = ap (λ (k : ℕ). predicates_start + k) (c.from-functions_at.ensures ∙ predicate_count _ a) in
    let ai : at ≡ f + length (said W).functions = ap (λ (k : ℕ). f + k) (c.from.ensures ∙ function_count _ a) in
    let ni : c.from-n.result ≡ length (said W).clauses = c.from-n.ensures ∙ clause_count_law _ a in
    let w = (rw (predicates_are W a f fi, functions_are W a f fi at ai, ni) at c.clauses-at.ensures) (clauses_from W a f fi at ai) in
    (rw (predicates_are W a f fi, functions_are W a f fi at ai) (goal_from W a c.clauses-at.result (goal_comes W _ _ _ w)), words_short W a, c.clauses-at.auto.dir ∙ c.requires.1)

pub bounds-dir-n : goal.bounds-dir-n
bounds-dir-n c = let a = c.requires.0 in let e : length c.goal.new.dir ≡ dir_words = c.goal.auto.dir ∙ c.clauses-at.auto.dir ∙ c.requires.1 in omega (arith, c.from-n.ensures, clause_count_law _ a, (said_within _ a).clauses_most)

pub narrow-requires-2 : goal.narrow-requires-2
narrow-requires-2 c = let a = c.requires.0 in omega (arith, c.from-functions_at.ensures, predicate_count _ a, (said_within _ a).predicates_most)

pub narrow-requires-3 : goal.narrow-requires-3
narrow-requires-3 c = let a = c.requires.0 in omega (arith, c.from-functions_at.ensures, predicate_count _ a, (said_within _ a).predicates_most, c.from.ensures, function_count _ a, (said_within _ a).functions_most)

pub returns : goal.returns
returns c = let a = c.requires.0 in let W = c.args.words.now in let f = predicates_start + c.from-functions_at.result in let at = f + c.from.result in
    let fi : f ≡ predicates_start + length (said W).predicates = ap (λ (k : ℕ). predicates_start + k) (c.from-functions_at.ensures ∙ predicate_count _ a) in
    let ai : at ≡ f + length (said W).functions = ap (λ (k : ℕ). f + k) (c.from.ensures ∙ function_count _ a) in
    let ni : c.from-n.result ≡ length (said W).clauses = c.from-n.ensures ∙ clause_count_law _ a in
    let w = (rw (predicates_are W a f fi, functions_are W a f fi at ai, ni) at c.clauses-at.ensures) (clauses_from W a f fi at ai) in
    let g = (rw (predicates_are W a f fi, functions_are W a f fi at ai) at c.goal.ensures) (goal_from W a c.clauses-at.result (goal_comes W _ _ _ w)) in
    let e : length c.goal.new.dir ≡ dir_words = c.goal.auto.dir ∙ c.clauses-at.auto.dir ∙ c.requires.1 in
    rw (c.narrow.ensures, c.narrow-2.ensures, c.narrow-3.ensures) (placed W a f at c.from-n.result fi ai ni _ _ _ _ e w g)
