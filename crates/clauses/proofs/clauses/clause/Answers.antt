-- `clause` meets its contract: rows for the body atoms behind the first, and then what a round looks at with the head. Assumes nothing.
use native.Mathlib.Omega.{arith}
use mathlib.Core.Logic.{inr}
use Rattle.rows.specs.Rows.{keys_of}
use Rattle.rows.proofs.AddedRows.{reached_err}
use Rattle.steps.specs.Steps.{Given}
use Rattle.steps.specs.Situation.{HeadAsked}
use Rattle.steps.proofs.Stepping.{stepped_within, stepped_past}
use Rattle.ends.proofs.ClauseRows.{end_after, stands_on}
use Rattle.clauses.specs.Working.{Working}
use Rattle.clauses.proofs.ClausePlaces.{places_asked, Past, no_places_law, clause_ends}
use Rattle.clauses.proofs.clauses.clause.Goals as goal
use Rattle.clauses.proofs.clauses.clause.Goals.{then-first-end+in_ok-rows, else-first-end}

pub middle_places-requires : goal.middle_places-requires
middle_places-requires c = let a = c.args in (places_asked a.program.now.words.now a.program.now.dir.now a.table.now a.heads.now a.at.since a.at.rows a.k c.requires.0 c.from-first.result c.from-end.result c.from-first.ensures c.from-end.ensures c.if-first-end.true, c.requires.1)

pub returns-in_err-rows-clause-stepped : goal.returns-in_err-rows-clause-stepped
returns-in_err-rows-clause-stepped c = let a = c.args in λ w.
    rw (reached_err _ _ c.from_residual.ensures.0)
    (inr (stepped_past (Given w.situation.p (keys_of a.table.now a.at.rows)) a.at.number a.at.room a.n _ a.table.now a.work.now.buckets c.middle_places.new.table c.middle_places.new.work.buckets _
    ((rw c.in_err-rows.was at c.middle_places.ensures.stepped) (places_asked _ _ _ _ _ _ a.k w c.from-first.result c.from-end.result c.from-first.ensures c.from-end.ensures c.if-first-end.true)) (omega arith)))

pub end_clause-requires : goal.end_clause-requires
end_clause-requires c =
    let past : ((w : HeadAsked c.args.program.now.words.now c.args.program.now.dir.now c.args.table.now c.args.heads.now c.args.at.since c.args.at.rows c.args.k) → Past c.args.program.now.words.now c.args.program.now.dir.now c.args.heads.now c.args.table.now c.args.work.now.buckets c.args.at.since c.args.at.rows c.args.at.number c.args.at.room c.args.n c.requires.1.behind c.args.k w c.if-first-end.rows c.if-first-end.table c.if-first-end.work.buckets)
    × Working c.args.program.now.words.now c.args.program.now.dir.now c.if-first-end.table c.if-first-end.work c.args.at.rows c.if-first-end.rows c.args.at.room = let a = c.args in
    elim c.if-first-end.branch [
      | then-first-end+in_ok-rows z ↦
          let works : Working a.program.now.words.now a.program.now.dir.now z.middle_places.new.table z.middle_places.new.work a.at.rows z.in_ok-rows.rows a.at.room = rw z.in_ok-rows.was at z.middle_places.ensures.works in
          rw (z.table-is, z.work-is, z.rows-is) (
            λ w. stepped_within (Given w.situation.p (keys_of a.table.now a.at.rows)) a.at.number a.at.room a.n _ a.table.now a.work.now.buckets z.middle_places.new.table z.middle_places.new.work.buckets _
                ((rw z.in_ok-rows.was at z.middle_places.ensures.stepped) (places_asked _ _ _ _ _ _ a.k w c.from-first.result c.from-end.result c.from-first.ensures c.from-end.ensures z.if-first-end.true)) works.writable.within,
            works,
          )
      | else-first-end z ↦ rw (z.table-is, z.work-is, z.rows-is) (
        λ w. no_places_law _ _ _ _ _ _ _ _ _ _ c.requires.1.behind _ w (omega (arith, z.if-first-end.false, end_after _ _ _ _ _ _ _ w _ _ c.from-first.ensures c.from-end.ensures)) c.requires.1.writable,
        c.requires.1,
      )
    ] in
    (stands_on _ _ _ _ _ _ _ _ _ _ c.requires.1.behind _ c.requires.0 _ _ _ _ (past.0 c.requires.0), past.1, c.requires.2)

pub returns-clause-stepped : goal.returns-clause-stepped
returns-clause-stepped c =
    let past : ((w : HeadAsked c.args.program.now.words.now c.args.program.now.dir.now c.args.table.now c.args.heads.now c.args.at.since c.args.at.rows c.args.k) → Past c.args.program.now.words.now c.args.program.now.dir.now c.args.heads.now c.args.table.now c.args.work.now.buckets c.args.at.since c.args.at.rows c.args.at.number c.args.at.room c.args.n c.requires.1.behind c.args.k w c.if-first-end.rows c.if-first-end.table c.if-first-end.work.buckets)
    × Working c.args.program.now.words.now c.args.program.now.dir.now c.if-first-end.table c.if-first-end.work c.args.at.rows c.if-first-end.rows c.args.at.room = let a = c.args in
    elim c.if-first-end.branch [
      | then-first-end+in_ok-rows z ↦
          let works : Working a.program.now.words.now a.program.now.dir.now z.middle_places.new.table z.middle_places.new.work a.at.rows z.in_ok-rows.rows a.at.room = rw z.in_ok-rows.was at z.middle_places.ensures.works in
          rw (z.table-is, z.work-is, z.rows-is) (
            λ w. stepped_within (Given w.situation.p (keys_of a.table.now a.at.rows)) a.at.number a.at.room a.n _ a.table.now a.work.now.buckets z.middle_places.new.table z.middle_places.new.work.buckets _
                ((rw z.in_ok-rows.was at z.middle_places.ensures.stepped) (places_asked _ _ _ _ _ _ a.k w c.from-first.result c.from-end.result c.from-first.ensures c.from-end.ensures z.if-first-end.true)) works.writable.within,
            works,
          )
      | else-first-end z ↦ rw (z.table-is, z.work-is, z.rows-is) (
        λ w. no_places_law _ _ _ _ _ _ _ _ _ _ c.requires.1.behind _ w (omega (arith, z.if-first-end.false, end_after _ _ _ _ _ _ _ w _ _ c.from-first.ensures c.from-end.ensures)) c.requires.1.writable,
        c.requires.1,
      )
    ] in
    let a = c.args in λ w.
    let g = past.0 w in
    clause_ends _ _ a.heads.now a.table.now a.work.now.buckets a.at.since a.at.rows a.at.number a.at.room a.n c.requires.1.behind a.k w c.if-first-end.rows c.if-first-end.table c.if-first-end.work.buckets g _ c.end_clause.new.table c.end_clause.new.work.buckets
    (c.end_clause.ensures.stepped (stands_on _ _ _ _ _ _ _ _ _ _ c.requires.1.behind _ w _ _ _ _ g))
