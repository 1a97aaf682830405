-- `clauses` meets its contract: a fault of a clause is the fault of all, and past a clause the answer is that for the clauses left.
-- Assumes nothing.
use Prim.Native.Nat.{◌-◌, ◌+◌}
use native.Mathlib.Omega.{arith}
use Rattle.std.proofs.Common.{rules}
use Rattle.std.proofs.lemmas.Result.{err_from_is_err_and}
use Rattle.program.specs.Reading.{several}
use Rattle.program.specs.Faults.{clause}
use Rattle.program.specs.Part.{Ends}
use Rattle.program.proofs.Parts.{onward_fault, onward_next}
use Rattle.program.proofs.atoms.Arities.clauses.Goals as goal

pub returns-in_err-at : goal.returns-in_err-at
returns-in_err-at c = let a = c.args in
    let l = c.loop in
    let p = err_from_is_err_and c.from_residual.result c.from_residual.ensures.1 in
    rw (p.1, p.2)
    (onward_fault a.from.words.now Ends (clause a.self.predicates.now a.self.functions.now) a.from l.at a.count (a.count - l.counter) (a.count - (l.counter + 1)) (omega (arith, c.loop-test.true)) l.invariant
    _ c.in_err-at.ensures)

pub loop-preserved : goal.loop-preserved
loop-preserved c = let a = c.args in
    let l = c.loop in
    onward_next a.from.words.now Ends (clause a.self.predicates.now a.self.functions.now) a.from l.at a.count (a.count - l.counter) (a.count - (l.counter + 1)) (omega (arith, c.loop-test.true)) l.invariant
    c.in_ok-at.at c.in_ok-at.at (λ read rest has. has) c.in_ok-at.ensures

pub returns : goal.returns
unfolding several
returns c = search rules
