-- `writer::write::put_answer` meets its contract: the words' faults, the names' faults, the room, in this order. Assumes nothing.
use Prim.Native.Nat.{ℕ, ◌+◌}
use mathlib.Core.Path.{refl, ap₂, ◌∙◌}
use native.Mathlib.Omega.{arith}
use lib.ListN.{length}
use Rattle.std.proofs.lemmas.Result.{err_from_is_err_and}
use Rattle.program.proofs.FaultNumbers.{accepted_sound}
use Rattle.directory.specs.Said.{said}
use Rattle.directory.proofs.AcceptedWords.{said_sound, said_within, first_three, predicate_count, function_count}
use Rattle.text.proofs.Puts.{put_length}
use Rattle.writer.specs.Names.{names_of, names_reply}
use Rattle.writer.proofs.Answers.{words_left, names_left, names_size, names_passed, text_answered, over_left, fits_left}
use Rattle.writer.proofs.write.put_answer.Goals as goal

pub returns-in_err-check : goal.returns-in_err-check
returns-in_err-check c = let a = c.args in
    let p = err_from_is_err_and c.from_residual.result c.from_residual.ensures.1 in
    rw (p.1, p.2) (refl, words_left a.words.now a.names.now (length a.text.now) a.text.now c.in_err-check.field-0.0 c.in_err-check.ensures)

pub bounds-words-0 : goal.bounds-words-0
bounds-words-0 c = omega (arith, first_three _ (accepted_sound c.args.words.now _ c.in_ok-check.ensures refl))

pub bounds-words-1 : goal.bounds-words-1
bounds-words-1 c = omega (arith, first_three _ (accepted_sound c.args.words.now _ c.in_ok-check.ensures refl))

pub check_names-requires : goal.check_names-requires
check_names-requires c = let words = c.args.words.now in
    let a = accepted_sound words _ c.in_ok-check.ensures refl in
    let p = c.from.ensures ∙ predicate_count words a in
    let f = c.from-2.ensures ∙ function_count words a in
    let w = said_within words a in
    omega (arith, w.predicates_most, w.functions_most)

pub returns-in_err-check_names : goal.returns-in_err-check_names
returns-in_err-check_names c = let s = c.args in
    let words = s.words.now in
    let names = s.names.now in
    let a = accepted_sound words _ c.in_ok-check.ensures refl in
    let p = c.from.ensures ∙ predicate_count words a in
    let f = c.from-2.ensures ∙ function_count words a in
    let named = c.in_err-check_names.ensures ∙ ap₂ (λ (x y : ℕ). names_reply (names_of names x (x + y))) p f in
    let e = err_from_is_err_and c.from_residual-in_err-check_names.result c.from_residual-in_err-check_names.ensures.1 in
    rw (e.1, e.2) (refl, names_left words names (length s.text.now) s.text.now (said words) (said_sound words a) c.in_err-check_names.field-0.0 named)

pub put_text-end-requires : goal.put_text-end-requires
put_text-end-requires c = let words = c.args.words.now in
    let names = c.args.names.now in
    let a = accepted_sound words _ c.in_ok-check.ensures refl in
    let p = c.from.ensures ∙ predicate_count words a in
    let f = c.from-2.ensures ∙ function_count words a in
    let named = c.in_ok-check_names.ensures ∙ ap₂ (λ (x y : ℕ). names_reply (names_of names x (x + y))) p f in
    let w = said_within words a in
    let n = length (said words).predicates in
    let symbols = n + length (said words).functions in
    (a, record { few = omega (arith, w.predicates_most, w.functions_most); size = names_size names n symbols (names_passed names n symbols tt named) })

pub returns-then-text-end : goal.returns-then-text-end
returns-then-text-end c = let words = c.args.words.now in
    let names = c.args.names.now in
    let room = length c.args.text.now in
    let put = c.put_text-end.ensures in
    let a = accepted_sound words _ c.in_ok-check.ensures refl in
    let p = c.from.ensures ∙ predicate_count words a in
    let f = c.from-2.ensures ∙ function_count words a in
    let named = c.in_ok-check_names.ensures ∙ ap₂ (λ (x y : ℕ). names_reply (names_of names x (x + y))) p f in
    let n = length (said words).predicates in
    let z = names_passed names n (n + length (said words).functions) tt named in
    (put_length put, rw (text_answered words names room c.put_text-end.new.text (said words) (said_sound words a) z) (over_left put (omega (arith, put_length put, c.if-text-end.true)) _ (put_length put)))

pub returns : goal.returns
returns c = let words = c.args.words.now in
    let names = c.args.names.now in
    let room = length c.args.text.now in
    let put = c.put_text-end.ensures in
    let a = accepted_sound words _ c.in_ok-check.ensures refl in
    let p = c.from.ensures ∙ predicate_count words a in
    let f = c.from-2.ensures ∙ function_count words a in
    let named = c.in_ok-check_names.ensures ∙ ap₂ (λ (x y : ℕ). names_reply (names_of names x (x + y))) p f in
    let n = length (said words).predicates in
    let z = names_passed names n (n + length (said words).functions) tt named in
    (put_length put, rw (text_answered words names room c.put_text-end.new.text (said words) (said_sound words a) z) (fits_left put (omega (arith, put_length put, c.if-text-end.false))))
