-- `lister::list::list` meets its contract: what stands behind an answer is cleared. Assumes nothing.
use Prim.Native.Nat.{ℕ}
use mathlib.Core.Path.{ap, ◌∙◌}
use mathlib.Core.List.{[]}
use lib.ListN.{length, replicate, take}
use Rattle.text.specs.Room.{in_room}
use Rattle.text.proofs.Rooms.{in_room_empty}
use Rattle.lister.proofs.list.list.Goals as goal

pub returns-in-Ok : goal.returns-in-Ok
returns-in-Ok c = rw (c.clear.ensures ∙ ap (λ (n : ℕ). in_room n (take c.in-Ok.size c.put_listing-answer.new.out)) c.put_listing-answer.auto.out) c.in-Ok.ensures

pub returns-in-Err : goal.returns-in-Err
returns-in-Err c = let table-zero = c.fill.ensures.after (λ y e. e) ∙ ap (λ (n : ℕ). replicate n 0) c.put_listing-answer.auto.table in
    let out-zero = c.clear-in-Err.ensures ∙ ap (λ (n : ℕ). in_room n []) c.put_listing-answer.auto.out ∙ in_room_empty (length c.args.out.now) in
    rw (c.in-Err.is, table-zero, out-zero) c.in-Err.ensures
