-- `enter_heads` meets its contract: the clauses passed are entered. Assumes nothing.
use Prim.Native.Nat.{◌<◌}
use native.Mathlib.Omega.{arith}
use Rattle.concerns.proofs.ActiveClauses.{head_in_words, head_declared}
use Rattle.concerns.proofs.ClauseIndex.{clause_at_law, heads_on, heads_all}
use Rattle.concerns.proofs.index.enter_heads.Goals as goal

pub bounds-program-k : goal.bounds-program-k
bounds-program-k c = omega (arith, (head_in_words c.requires.0.setting (clause_at_law c.requires.0.setting _ _ c.loop-k.invariant.0 c.loop-k-test.true).1).0, c.requires.0.setting.directory.size)

pub bounds-program-from : goal.bounds-program-from
bounds-program-from c = rw c.from.ensures (head_in_words c.requires.0.setting (clause_at_law c.requires.0.setting _ _ c.loop-k.invariant.0 c.loop-k-test.true).1).1

pub enter-requires : goal.enter-requires
enter-requires c = let d : c.from-predicate.result < 64 = rw (c.from-predicate.ensures, c.from.ensures) (head_declared c.requires.0.setting (clause_at_law c.requires.0.setting _ _ c.loop-k.invariant.0 c.loop-k-test.true).1) in
    (omega (arith, d, c.loop-k.auto.set, c.requires.1), (head_in_words c.requires.0.setting (clause_at_law c.requires.0.setting _ _ c.loop-k.invariant.0 c.loop-k-test.true).1).0)

pub loop-k-preserved : goal.loop-k-preserved
loop-k-preserved c = (
  c.loop-k.invariant.0,
  λ p st. heads_on st _ _ _ _ c.enter.ensures (rw c.from.ensures at c.from-predicate.ensures) (c.loop-k.invariant.1 p st),
)

pub returns : goal.returns
returns c = λ p st. heads_all st c.loop-k.set _ _ c.loop-k.invariant.0 (omega (arith, c.loop-k-test.false)) (c.loop-k.invariant.1 p st)
