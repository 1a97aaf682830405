-- `reader::read::read_scenario` meets its contract: the answer for the text in the lent room, and every lent word after. Assumes nothing.
use mathlib.Core.Path.{sym, ◌∙◌}
use native.Mathlib.Omega.{arith}
use lib.ListN.{length, length-take}
use Rattle.program.specs.Limits.{max_words}
use Rattle.program.specs.Reply.{number_of}
use Rattle.text.proofs.Rooms.{in_room_empty}
use Rattle.reader.specs.Read.{answer_of}
use Rattle.reader.proofs.Hands.{handed}
use Rattle.reader.proofs.Texts.{fault_is, whole, refused_all, accepted_all}
use Rattle.reader.proofs.read.read_scenario.Goals as goal

pub slice_bounds-own_words-end : goal.slice_bounds-own_words-end
slice_bounds-own_words-end c = let a = c.args in
    let r = c.read_text in
    let w = whole a.text.now r.new.symbols.names r.new.words (length a.words.now) (length a.names.now) c.in-Ok.sizes
    (rw c.in-Ok.is at (r.ensures (sym (in_room_empty 2048)) (sym (in_room_empty 2048)))) in
    omega (arith, w.count_is, w.few_words, r.auto.words)

pub slice_bounds-hand-end : goal.slice_bounds-hand-end
slice_bounds-hand-end c = let a = c.args in
    let r = c.read_text in
    let w = whole a.text.now r.new.symbols.names r.new.words (length a.words.now) (length a.names.now) c.in-Ok.sizes
    (rw c.in-Ok.is at (r.ensures (sym (in_room_empty 2048)) (sym (in_room_empty 2048)))) in
    omega (arith, w.count_is, w.few_words, r.auto.words, length-take c.in-Ok.sizes.words r.new.words)

pub returns-in-Ok : goal.returns-in-Ok
returns-in-Ok c = let a = c.args in
    let r = c.read_text in
    let lw = length a.words.now in
    let ln = length a.names.now in
    let w = whole a.text.now r.new.symbols.names r.new.words lw ln c.in-Ok.sizes
    (rw c.in-Ok.is at (r.ensures (sym (in_room_empty 2048)) (sym (in_room_empty 2048)))) in
    accepted_all (answer_of a.text.now lw ln) w.scenario c.in-Ok.sizes.words lw ln c.hand.new.lent c.hand-in-Ok.new.lent w.is w.count_is
    (c.hand.ensures ∙ handed lw max_words c.in-Ok.sizes.words w.scenario.words r.new.words w.count_is w.word_room w.few_words w.words_fit)
    (c.hand-in-Ok.ensures ∙ handed ln 2048 c.in-Ok.sizes.names w.scenario.names r.new.symbols.names w.size_is w.name_room w.few_names w.names_fit)

pub returns-in-Err : goal.returns-in-Err
returns-in-Err c = let a = c.args in
    let r = c.read_text in
    let lw = length a.words.now in
    let ln = length a.names.now in
    let e = fault_is r.new.symbols.names r.new.words (answer_of a.text.now lw ln) c.in-Err.fault
    (rw c.in-Err.is at (r.ensures (sym (in_room_empty 2048)) (sym (in_room_empty 2048)))) in
    refused_all (answer_of a.text.now lw ln) (number_of c.in-Err.fault.refusal) c.in-Err.fault.place lw ln c.fill.new.self c.fill-in-Err.new.self e
    (c.fill.ensures.after (λ y e. e) ∙ sym (in_room_empty lw)) (c.fill-in-Err.ensures.after (λ y e. e) ∙ sym (in_room_empty ln))
