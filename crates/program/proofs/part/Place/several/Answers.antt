-- `several` meets its contract: a fault of a word is the fault of all, and past a word the answer is that for the words left.
-- Assumes nothing.
use Prim.Native.Nat.{ℕ, ◌-◌, ◌+◌}
use native.Mathlib.Omega.{arith}
use Rattle.std.proofs.Common.{rules}
use Rattle.std.proofs.lemmas.Result.{err_from_is_err_and}
use Rattle.program.specs.Reply.{number_of}
use Rattle.program.specs.Reading.{bounded, several}
use Rattle.program.specs.declared.part.Place.{Place}
use Rattle.program.specs.Part.{Itself}
use Rattle.program.proofs.Parts.{onward_fault, onward_next}
use Rattle.program.proofs.part.Place.several.Goals as goal

pub returns-in_err-next : goal.returns-in_err-next
returns-in_err-next c = let a = c.args in
    let l = c.loop in
    let p = err_from_is_err_and c.from_residual.result c.from_residual.ensures.1 in
    rw (p.1, p.2)
    (onward_fault a.self.words.now Itself (bounded (number_of a.refusal) 0 a.high) a.self l.at a.count (a.count - l.counter) (a.count - (l.counter + 1)) (omega (arith, c.loop-test.true)) l.invariant
    _ c.in_err-next.ensures)

pub loop-preserved : goal.loop-preserved
loop-preserved c = let a = c.args in
    let l = c.loop in
    let read : ℕ × Place = (c.in_ok-next.field-0-0, c.in_ok-next.next) in
    onward_next a.self.words.now Itself (bounded (number_of a.refusal) 0 a.high) a.self l.at a.count (a.count - l.counter) (a.count - (l.counter + 1)) (omega (arith, c.loop-test.true)) l.invariant
    read c.in_ok-next.next (λ w rest has. has.1) c.in_ok-next.ensures

pub returns : goal.returns
unfolding several
returns c = search rules
