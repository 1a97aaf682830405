-- `head_marks` meets its contract: without a body the marks are those that call rows pass, else those past the last body atom. Assumes nothing.
use Rattle.ends.proofs.ClauseRows.{no_body, some_body, last_asked, last_marked}
use Rattle.ends.proofs.ends.head_marks.Goals as goal

pub returns-then-first-end : goal.returns-then-first-end
returns-then-first-end c = (
  c.requires.3,
  λ w.
      let none = no_body _ _ _ _ _ _ _ w _ _ c.from-first.ensures c.from-end.ensures c.if-first-end.true in
      rw none (c.mark_head.ensures.0 w.situation),
  c.mark_head.ensures.1,
)

pub last_place-requires : goal.last_place-requires
last_place-requires c = let some = some_body _ _ _ _ _ _ _ c.requires.0 _ _ c.from-first.ensures c.from-end.ensures c.if-first-end.false in
    (last_asked _ _ _ _ _ _ _ c.requires.0 _ _ c.from-first.ensures c.from-end.ensures some _ _ c.from.ensures c.first_variables-there.ensures.1, c.requires.1, c.requires.2, c.requires.3)

pub returns : goal.returns
returns c = (
  c.last_place.ensures.0,
  λ w.
      last_marked _ _ _ _ _ _ _ w _ _ c.from-first.ensures c.from-end.ensures (some_body _ _ _ _ _ _ _ w _ _ c.from-first.ensures c.from-end.ensures c.if-first-end.false) _ _ c.last_place.result c.last_place.ensures.1,
  c.requires.4,
)
