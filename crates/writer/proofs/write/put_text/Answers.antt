-- `writer::write::put_text` meets its contract: the declarations, the clauses and the query, one behind another. Assumes nothing.
use Prim.Native.Nat.{ℕ}
use mathlib.Core.Path.{subst}
use mathlib.Core.List.{List}
use native.Mathlib.Omega.{arith}
use Rattle.directory.proofs.AcceptedWords.{first_three, words_short}
use Rattle.text.specs.Put.{Put}
use Rattle.text.proofs.Puts.{put_append}
use Rattle.writer.proofs.AcceptedText.{middle_within, start_within, named_parts, clauses_to_come, goal_to_come, text_said}
use Rattle.writer.proofs.write.put_text.Goals as goal

pub bounds-words-0 : goal.bounds-words-0
bounds-words-0 c = omega (arith, first_three _ c.requires.0)

pub bounds-words-1 : goal.bounds-words-1
bounds-words-1 c = omega (arith, first_three _ c.requires.0)

pub bounds-words-2 : goal.bounds-words-2
bounds-words-2 c = omega (arith, first_three _ c.requires.0)

pub slice_bounds-symbols-end : goal.slice_bounds-symbols-end
slice_bounds-symbols-end c = let words = c.args.words.now in
    let a = c.requires.0 in
    middle_within words a c.from-middle.result c.from.result c.from-count.result c.from-middle.ensures c.from.ensures c.from-count.ensures

pub slice_bounds-symbols-end-2 : goal.slice_bounds-symbols-end-2
slice_bounds-symbols-end-2 c = let words = c.args.words.now in
    let a = c.requires.0 in
    start_within words a c.from-middle.result c.from.result c.from-count.result c.from-middle.ensures c.from.ensures c.from-count.ensures

pub invariant_of-symbols : goal.invariant_of-symbols
invariant_of-symbols c = let h = named_parts c.args.words.now c.requires.0 c.from-middle.result c.from.result c.from-count.result c.from-middle.ensures c.from.ensures c.from-count.ensures c.args.names.now c.requires.1 in
    record { few = h.few; size = h.size }

pub put_clauses-walked-requires : goal.put_clauses-walked-requires
put_clauses-walked-requires c = let words = c.args.words.now in
    let a = c.requires.0 in
    (clauses_to_come words a c.from-middle.result c.from.result c.from-count.result c.from-middle.ensures c.from.ensures c.from-count.ensures, start_within words a c.from-middle.result c.from.result c.from-count.result c.from-middle.ensures c.from.ensures c.from-count.ensures)

pub put_query-requires : goal.put_query-requires
put_query-requires c = let words = c.args.words.now in
    let a = c.requires.0 in
    let w = c.put_clauses-walked.ensures (clauses_to_come words a c.from-middle.result c.from.result c.from-count.result c.from-middle.ensures c.from.ensures c.from-count.ensures) in
    (goal_to_come words a c.from-middle.result c.from.result c.from-count.result c.from-middle.ensures c.from.ensures c.from-count.ensures c.put_clauses-walked.result.at w.to_come, words_short words a)

pub returns : goal.returns
returns c = let words = c.args.words.now in
    let a = c.requires.0 in
    let w = c.put_clauses-walked.ensures (clauses_to_come words a c.from-middle.result c.from.result c.from-count.result c.from-middle.ensures c.from.ensures c.from-count.ensures) in
    let q = c.put_query.ensures (goal_to_come words a c.from-middle.result c.from.result c.from-count.result c.from-middle.ensures c.from.ensures c.from-count.ensures c.put_clauses-walked.result.at w.to_come) in
    subst (λ (t : List ℕ). Put t c.args.text.now c.put_query.new.out 0 c.put_query.result)
    (text_said words a c.from-middle.result c.from.result c.from-count.result c.from-middle.ensures c.from.ensures c.from-count.ensures c.args.names.now)
    (put_append c.put_declarations-first.ensures (put_append c.put_declarations-end.ensures (put_append w.put q)))
