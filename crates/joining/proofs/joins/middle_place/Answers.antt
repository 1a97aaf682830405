-- `middle_place` meets its contract: what the place's cont rows make with the answers is what rule 2 makes with a new row, and goes on to the next
-- atom; then nothing is seen. Assumes nothing.
use Prim.Native.Nat.{ℕ}
use native.Mathlib.Omega.{arith}
use mathlib.Core.Path.{ap, ◌∙◌}
use lib.ListN.{length, replicate, length-replicate}
use Rattle.rows.specs.MaskSet.{set_words}
use Rattle.joining.proofs.Joining.{fewer_among}
use Rattle.joining.proofs.PlaceSteps.{slot_there, next_body, no_next_rows, conts_asked, next_rows}
use Rattle.joining.proofs.joins.middle_place.Goals as goal

pub returns-in_default-clause-stepped : goal.returns-in_default-clause-stepped
returns-in_default-clause-stepped c = λ w b. no_next_rows w b c.requires.1 (c.in_default.ensures.none w b)

pub overflow_add-next : goal.overflow_add-next
overflow_add-next c = let m = c.requires.0 in omega (arith, (slot_there m.situation m.body).1)

pub emit_conts-rows-requires : goal.emit_conts-rows-requires
emit_conts-rows-requires c = let m = c.requires.0 in
    let (newest_is, lists) = c.in-Some.ensures.some in
    let (fresh_is, all_is) = c.of-listed.ensures in (
      rw fresh_is (rw all_is (conts_asked m.situation m.body newest_is (fewer_among _ _ _ lists.there.few) (lists.answered m.situation m.body) m
          (c.body_order-order.ensures (next_body m.situation m.body m)))),
      c.requires.1,
      c.requires.2,
      c.in-Some.ensures.unseen,
    )

pub returns-clause-unseen : goal.returns-clause-unseen
returns-clause-unseen c = c.zero.ensures ∙ ap (λ (k : ℕ). replicate {A = ℕ} k 0) (c.emit_conts-rows.auto.seen ∙ ap length c.in-Some.ensures.unseen ∙ length-replicate {A = ℕ} set_words 0)

pub returns-clause-stepped : goal.returns-clause-stepped
returns-clause-stepped c = let m = c.requires.0 in
    let (newest_is, lists) = c.in-Some.ensures.some in
    let (fresh_is, all_is) = c.of-listed.ensures in
    λ w b.
    next_rows w b newest_is (fewer_among _ _ _ lists.there.few) (lists.answered w b) m (c.body_order-order.ensures (next_body w b m))
    (rw fresh_is at (rw all_is at c.emit_conts-rows.ensures.stepped))
