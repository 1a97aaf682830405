-- `middle_places` meets its contract: the places passed have their rows. Assumes nothing.
use native.Mathlib.Omega.{arith}
use mathlib.Core.Path.{refl, ◌∙◌}
use mathlib.Core.Logic.{inr}
use Rattle.rows.proofs.AddedRows.{reached_err}
use Rattle.steps.proofs.Stepping.{stepped_within, stepped_past}
use Rattle.ends.specs.Ends.{Scratch}
use Rattle.clauses.proofs.HeadSteps.{marks_after, answers_after, works_after}
use Rattle.clauses.proofs.MiddlePlaces.{middle_asked, middle_next, middles_begin, middles_end}
use Rattle.clauses.proofs.clauses.middle_places.Goals as goal

pub loop-j-init : goal.loop-j-init
loop-j-init c = (λ w. middles_begin _ _ _ _ _ _ _ _ _ _ _ _ c.requires.1.behind w c.requires.1.writable, c.requires.1)

pub middle_place-requires : goal.middle_place-requires
middle_place-requires c = let (grew, works) = c.loop-j.invariant in (
  middle_asked _ _ _ _ _ _ _ _ _ _ _ _ c.requires.1.behind c.requires.0 _ _ _ c.loop-j.j c.loop-j.auto.j c.loop-j-test.true (grew c.requires.0),
  works.writable,
  works.behind,
  works.scratch.none_found,
  works.scratch.all_answers,
  works.answers,
)

pub returns-in_err-rows-clause-scratch : goal.returns-in_err-rows-clause-scratch
returns-in_err-rows-clause-scratch c = record { all_answers = c.middle_place.auto.answers ∙ c.loop-j.invariant.1.scratch.all_answers; none_found = c.middle_place.ensures.unseen }

pub returns-in_err-rows-clause-stepped : goal.returns-in_err-rows-clause-stepped
returns-in_err-rows-clause-stepped c = λ w.
    rw (reached_err _ _ c.from_residual.ensures.0)
    (inr (stepped_past _ c.args.at.number _ _ _ _ _ _ _ _
    (middle_next _ _ _ _ _ _ _ _ _ _ _ _ c.requires.1.behind w _ _ _ c.loop-j.j c.loop-j.auto.j c.loop-j-test.true (c.loop-j.invariant.0 w) _ _ _ (rw c.in_err-rows.was at c.middle_place.ensures.stepped)) (omega arith)))

pub loop-j-preserved : goal.loop-j-preserved
loop-j-preserved c = let (grew, works) = c.loop-j.invariant in
    let m = middle_asked _ _ _ _ _ _ _ _ _ _ _ _ c.requires.1.behind c.requires.0 _ _ _ c.loop-j.j c.loop-j.auto.j c.loop-j-test.true (grew c.requires.0) in
    let done = c.middle_place.ensures in
    let step = done.stepped m.situation m.body in
    let scratch : Scratch c.middle_place.new.answers c.middle_place.new.seen = record { all_answers = c.middle_place.auto.answers ∙ works.scratch.all_answers; none_found = done.unseen } in (
      λ w. stepped_within _ c.args.at.number _ _ _ _ _ _ _ _
          (middle_next _ _ _ _ _ _ _ _ _ _ _ _ c.requires.1.behind w _ _ _ c.loop-j.j c.loop-j.auto.j c.loop-j-test.true (grew w) _ _ _ (rw c.in_ok-rows.was at done.stepped)) (rw c.in_ok-rows.was at done.within),
      rw c.in_ok-rows.was at
          (works_after _ _ _ _ _ _ m.situation _ c.args.at.number _ _ _ _ c.middle_place.result works.behind done.within step _ refl scratch
          (marks_after _ _ _ _ _ _ m.situation _ c.args.at.number _ _ _ _ c.middle_place.result works.behind done.within step _ works.marks)
          (answers_after _ _ _ _ _ _ m.situation _ c.args.at.number _ _ _ _ c.middle_place.result works.behind done.within step _ done.keeps)),
    )

pub returns : goal.returns
returns c = let (grew, works) = c.loop-j.invariant in record {
  scratch = works.scratch;
  stepped = λ w. middles_end _ _ _ _ _ _ _ _ _ _ _ _ c.requires.1.behind w _ _ _ c.loop-j.j c.loop-j.auto.j (omega (arith, w.last_is)) c.loop-j-test.false (grew w);
  works = works;
}
