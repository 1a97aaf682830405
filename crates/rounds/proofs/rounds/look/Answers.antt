-- `look` meets its contract: a clause whose bit is not set gives nothing. Assumes nothing.
use native.Mathlib.Omega.{arith}
use Rattle.steps.proofs.Stepping.{stepped_none}
use Rattle.ends.proofs.ClauseRows.{clause_few}
use Rattle.concerns.proofs.ActiveClauses.{not_looked}
use Rattle.rounds.proofs.RoundClauses.{asked_every}
use Rattle.rounds.proofs.rounds.look.Goals as goal

pub overflow_shr-concerns : goal.overflow_shr-concerns
overflow_shr-concerns c = omega (arith, (clause_few _ _ _ _ _ _ _ c.requires.0.asked).0)

pub returns : goal.returns
returns c = record {
  scratch = c.requires.1.scratch;
  stepped = λ w.
      stepped_none _ c.args.at.number _ _ _ _ _ c.requires.1.writable
      (λ key (row, h, e). absurd (not_looked w.situation.setting _ _ _ (λ r new by. c.if-concerns-k-eq1.false (asked_every c.requires.0 w r new by)) row h));
  works = c.requires.1;
}
