-- `writer::write::write` meets its contract: what stands behind an answer is cleared. Assumes nothing.
use Prim.Native.Nat.{ℕ}
use mathlib.Core.Path.{ap, ◌∙◌}
use mathlib.Core.List.{[]}
use lib.ListN.{length, take}
use Rattle.text.specs.Room.{in_room}
use Rattle.writer.specs.Write.{answer_of}
use Rattle.writer.proofs.Answers.{text_written, text_refused}
use Rattle.writer.proofs.write.write.Goals as goal

pub returns-in-Ok : goal.returns-in-Ok
returns-in-Ok c = let a = c.args in
    let room = length a.text.now in
    let left = c.put_answer-answer.new.text in
    let end = c.in-Ok.end in
    let w = text_written room left end (answer_of a.words.now a.names.now room) c.in-Ok.ensures.1 in
    (w.0, c.clear.ensures ∙ ap (λ (n : ℕ). in_room n (take end left)) c.in-Ok.ensures.0 ∙ w.1)

pub returns-in-Err : goal.returns-in-Err
returns-in-Err c = let a = c.args in
    let room = length a.text.now in
    let w = text_refused room c.put_answer-answer.new.text c.in-Err.field-0 (answer_of a.words.now a.names.now room) c.in-Err.ensures.1 in
    rw c.in-Err.is (w.0, c.clear-in-Err.ensures ∙ ap (λ (n : ℕ). in_room n []) c.in-Err.ensures.0 ∙ w.1)
