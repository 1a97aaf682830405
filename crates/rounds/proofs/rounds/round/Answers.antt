-- `round` meets its contract: the clauses passed are dealt with. Assumes nothing.
use Prim.Native.Nat.{◌<◌}
use native.Mathlib.Omega.{arith}
use mathlib.Core.Logic.{inr}
use lib.ListN.{length}
use Rattle.rows.proofs.AddedRows.{reached_err}
use Rattle.steps.proofs.NotedUnifiers.{room_stays}
use Rattle.steps.proofs.Stepping.{stepped_within, stepped_past}
use Rattle.std.proofs.lemmas.Result.{IfOk-at_ok}
use Rattle.clauses.specs.Working.{Working}
use Rattle.rounds.proofs.RoundClauses.{clauses_begin, look_asked, clauses_next, clauses_end}
use Rattle.rounds.proofs.rounds.round.Goals as goal

pub loop-k-init : goal.loop-k-init
loop-k-init c = (c.from-clauses.ensures, λ w. clauses_begin _ _ _ _ _ _ _ _ _ w c.requires.1.writable, c.requires.1, c.requires.2)

pub look-requires : goal.look-requires
look-requires c = let (many, grew, works, notes) = c.loop-k.invariant in
    let w = c.requires.0.situation in
    let b : c.loop-k.k < length w.p.clauses = omega (arith, c.loop-k-test.true, many, w.setting.directory.clause_count_law) in
    (look_asked _ _ _ _ _ _ _ _ _ w _ _ _ _ b (grew w) _ (c.active-concerns.ensures w c.requires.0.indexed _), works, notes)

pub returns-in_err-rows-clause-stepped : goal.returns-in_err-rows-clause-stepped
returns-in_err-rows-clause-stepped c = λ w.
    let inv = c.loop-k.invariant in
    let b : c.loop-k.k < length w.p.clauses = omega (arith, c.loop-k-test.true, inv.0, w.setting.directory.clause_count_law) in
    rw (reached_err _ _ c.from_residual.ensures.0)
    (inr (stepped_past _ c.args.at.number _ _ _ _ _ _ _ _ (clauses_next _ _ _ _ _ _ _ _ _ w _ _ _ _ b (inv.1 w) _ _ _ (rw c.in_err-rows.was at c.look.ensures.stepped)) (omega arith)))

pub loop-k-preserved : goal.loop-k-preserved
loop-k-preserved c = let inv = c.loop-k.invariant in
    let works = IfOk-at_ok (λ m. Working c.args.program.now.words.now c.args.program.now.dir.now c.look.new.table c.look.new.work c.args.at.rows m c.args.at.room) c.in_ok-rows.was c.look.ensures.works in (
      inv.0,
      λ w.
          let b : c.loop-k.k < length w.p.clauses = omega (arith, c.loop-k-test.true, inv.0, w.setting.directory.clause_count_law) in
          stepped_within _ c.args.at.number _ _ _ _ _ _ _ _ (clauses_next _ _ _ _ _ _ _ _ _ w _ _ _ _ b (inv.1 w) _ _ _ (rw c.in_ok-rows.was at c.look.ensures.stepped)) works.writable.within,
      works,
      room_stays _ _ c.look.auto.unifiers inv.3,
    )

pub returns : goal.returns
returns c = let (many, grew, works, notes) = c.loop-k.invariant in record {
  scratch = works.scratch;
  stepped = λ w. clauses_end _ _ _ _ _ _ _ _ _ w _ _ _ _ (omega (arith, c.loop-k-test.false, many, w.setting.directory.clause_count_law)) (grew w);
  works = works;
}
