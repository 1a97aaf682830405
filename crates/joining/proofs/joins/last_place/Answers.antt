-- `last_place` meets its contract: what the place's cont rows make with the answers is what rule 2 makes with a new row. Assumes nothing.
-- the set is as it was before the answers were listed
use Prim.Native.Nat.{ℕ}
use mathlib.Core.Path.{◌≡◌, sym, ap, subst, ◌∙◌}
use mathlib.Core.List.{List}
use lib.ListN.{length, length-replicate}
use Rattle.rows.specs.MaskSet.{set_words}
use Rattle.steps.specs.Heads.{Collected}
use Rattle.steps.proofs.MarkedSets.{marked_none}
use Rattle.joining.proofs.Joining.{fewer_among}
use Rattle.joining.proofs.PlaceSteps.{no_head_marks, conts_there, head_marked}
use Rattle.joining.proofs.joins.last_place.Goals as goal

marked_from : {P : ℕ → Type 0} (found before after : List ℕ) → before ≡ found → Collected P before after → Collected P found after
marked_from {P} found before after e = subst (λ (l : List ℕ). Collected P l after) e

pub returns-in_default : goal.returns-in_default
returns-in_default c = let unseen = c.in_default.ensures.unseen in (
  c.in_default.ensures.keeps,
  λ w b.
      let none = no_head_marks w b (c.in_default.ensures.none w b) in
      (marked_from _ _ _ (unseen ∙ sym c.requires.1) (marked_none _ (ap length unseen ∙ length-replicate {A = ℕ} set_words 0) none), λ q h. absurd (none q h)),
)

pub mark_conts-requires : goal.mark_conts-requires
mark_conts-requires c = let m = c.requires.0 in
    let (newest_is, lists) = c.in-Some.ensures.some in
    let (fresh_is, all_is) = c.of-listed.ensures in
    (rw fresh_is (rw all_is (rw newest_is (conts_there m.situation m.body (fewer_among _ _ _ lists.there.few)))), ap length c.in-Some.ensures.unseen ∙ length-replicate {A = ℕ} set_words 0)

pub returns : goal.returns
returns c = let (newest_is, lists) = c.in-Some.ensures.some in
    let (fresh_is, all_is) = c.of-listed.ensures in
    let among = fewer_among _ _ c.parts_of.new.answers lists.there.few in (
      c.in-Some.ensures.keeps,
      λ w b.
          let a = rw newest_is at (lists.answered w b) in
          let marked = (rw newest_is at (rw fresh_is at (rw all_is at c.mark_conts.ensures))) (conts_there w b among) in
          (marked_from _ _ _ (c.in-Some.ensures.unseen ∙ sym c.requires.1) (head_marked w b among a c.requires.0 marked), λ q h. tt),
    )
