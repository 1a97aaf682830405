-- `enter_bodies` meets its contract: the body atoms passed are entered. Assumes nothing.
use Prim.Native.Nat.{◌<◌}
use native.Mathlib.Omega.{arith}
use Rattle.concerns.proofs.ActiveClauses.{body_in_words, body_declared, head_in_words}
use Rattle.concerns.proofs.ClauseIndex.{clause_at_law, clause_spans, body_here, body_own, bodies_on, bodies_all, next_begins}
use Rattle.concerns.proofs.index.enter_bodies.Goals as goal

pub bounds-program-k : goal.bounds-program-k
bounds-program-k c = omega (arith, (head_in_words c.requires.0.setting (clause_at_law c.requires.0.setting _ _ c.loop-k.invariant.0 c.loop-k-test.true).1).0, c.requires.0.setting.directory.size)

pub loop-j-init : goal.loop-j-init
loop-j-init c = c.loop-k.invariant.2

pub bounds-program-j : goal.bounds-program-j
bounds-program-j c = omega (arith, (body_in_words c.requires.0.setting (body_here c.requires.0.setting _ _ _ c.loop-k.invariant.0 c.loop-k-test.true (rw c.loop-k.invariant.1 at c.loop-j.auto.j) (rw c.from-end.ensures at c.loop-j-test.true))).1, c.requires.0.setting.directory.size)

pub bounds-program-from : goal.bounds-program-from
bounds-program-from c = rw c.from.ensures (body_in_words c.requires.0.setting (body_here c.requires.0.setting _ _ _ c.loop-k.invariant.0 c.loop-k-test.true (rw c.loop-k.invariant.1 at c.loop-j.auto.j) (rw c.from-end.ensures at c.loop-j-test.true))).2

pub enter-requires : goal.enter-requires
enter-requires c = let here = body_here c.requires.0.setting _ _ _ c.loop-k.invariant.0 c.loop-k-test.true (rw c.loop-k.invariant.1 at c.loop-j.auto.j) (rw c.from-end.ensures at c.loop-j-test.true) in
    let d : c.from-predicate.result < 64 = rw (c.from-predicate.ensures, c.from.ensures) (body_declared c.requires.0.setting here) in
    (omega (arith, d, c.loop-j.auto.set, c.loop-k.auto.set, c.requires.1), (head_in_words c.requires.0.setting (clause_at_law c.requires.0.setting _ _ c.loop-k.invariant.0 c.loop-k-test.true).1).0)

pub loop-j-preserved : goal.loop-j-preserved
loop-j-preserved c = λ p st.
    bodies_on st _ _ _ _ _ c.enter.ensures (rw c.from.ensures at c.from-predicate.ensures)
    (body_own st _ _ _ c.loop-k.invariant.0 c.loop-k-test.true (rw c.loop-k.invariant.1 at c.loop-j.auto.j) (rw c.from-end.ensures at c.loop-j-test.true))
    (c.loop-j.invariant p st)

pub loop-k-preserved : goal.loop-k-preserved
loop-k-preserved c = let spans = clause_spans c.requires.0.setting _ c.loop-k.k c.loop-k.invariant.0 c.loop-k-test.true in (
  c.loop-k.invariant.0,
  next_begins _ c.loop-k.k c.from-end.result c.from-end.result c.from-end.ensures (omega arith) (omega arith),
  λ p st j b l. c.loop-j.invariant p st j b (omega (arith, spans, c.loop-k.invariant.1, c.from-end.ensures)),
)

pub returns : goal.returns
returns c = λ p st. bodies_all st c.loop-k.set _ _ _ c.loop-k.invariant.0 (omega arith) (omega arith) c.loop-k.invariant.1 (c.loop-k.invariant.2 p st)
