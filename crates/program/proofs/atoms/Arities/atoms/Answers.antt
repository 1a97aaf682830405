-- `atoms` meets its contract: a fault of an atom is the fault of all, and past an atom the answer is that for the atoms left.
-- Assumes nothing.
use Prim.Native.Nat.{◌-◌, ◌+◌}
use native.Mathlib.Omega.{arith}
use Rattle.std.proofs.Common.{rules}
use Rattle.std.proofs.lemmas.Result.{err_from_is_err_and}
use Rattle.program.specs.Atoms.{atoms}
use Rattle.program.proofs.AtomParts.{atoms_fault, atoms_next}
use Rattle.program.proofs.atoms.Arities.atoms.Goals as goal

pub returns-in_err-met : goal.returns-in_err-met
returns-in_err-met c = let a = c.args in
    let l = c.loop in
    let p = err_from_is_err_and c.from_residual.result c.from_residual.ensures.1 in
    rw (p.1, p.2)
    (atoms_fault a.from.words.now a.self.predicates.now a.self.functions.now a.from a.count a.seen l.at (a.count - l.counter) (a.count - (l.counter + 1)) l.known (omega (arith, c.loop-test.true)) l.invariant
    _ c.in_err-met.ensures)

pub loop-preserved : goal.loop-preserved
loop-preserved c = let a = c.args in
    let l = c.loop in
    atoms_next a.from.words.now a.self.predicates.now a.self.functions.now a.from a.count a.seen l.at (a.count - l.counter) (a.count - (l.counter + 1)) l.known (omega (arith, c.loop-test.true)) l.invariant
    c.in_ok-met.met c.in_ok-met.next c.in_ok-met.ensures

pub returns : goal.returns
unfolding atoms
returns c = search rules
