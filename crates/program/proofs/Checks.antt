-- The answer of a check of an encoded program: an error is the program's fault.
use Prim.Native.Nat.{ℕ, ◌<◌}
use mathlib.Core.Path.{◌≡◌, refl, sym, ap, ap₂, ◌∙◌}
use mathlib.Core.List.{List}
use native.Mathlib.Omega.{arith}
use Rattle.std.proofs.Common.{Err}
use Rattle.program.specs.Program.{Program}
use Rattle.program.specs.Faults.{Found, fault, sound, faults, reply_of}
use Rattle.program.specs.Reply.{number_of, scanned}
use Rattle.program.specs.declared.reply.Reply.{Reply}
use Rattle.program.specs.declared.reply.Fault.{Fault}
use Rattle.program.specs.declared.reply.Refusal.{Refusal}
use Rattle.program.specs.declared.reply.Refusal.TheVariants.{TooSoon, OutOfRange, Undeclared, BadVariable, LongAtom, BadGoal, Follows, TooLong, NoRoom, IllFormed, BadName, BothModes}

-- "Accepted is number 0": no refusal has it
pub numbered : (r : Refusal) → 0 < number_of r
numbered TooSoon = omega arith
numbered OutOfRange = omega arith
numbered Undeclared = omega arith
numbered BadVariable = omega arith
numbered LongAtom = omega arith
numbered BadGoal = omega arith
numbered Follows = omega arith
numbered TooLong = omega arith
numbered NoRoom = omega arith
numbered IllFormed = omega arith
numbered BadName = omega arith
numbered BothModes = omega arith

-- the fault that a check answers is the first of the words
pub checked_fault : (words : List ℕ) (f : Fault) → scanned (Err f) ≡ reply_of (faults words) → faults words ≡ fault (number_of f.refusal) f.place
checked_fault words f is = by (faults words) refl
  where
    by : (found : Found Program) → faults words ≡ found → faults words ≡ fault (number_of f.refusal) f.place
    by (fault number place) e =
        let same = is ∙ ap reply_of e in
        e ∙ ap₂ fault (sym (ap (λ (x : Reply). x.number) same)) (sym (ap (λ (x : Reply). x.place) same))
    by (sound p) e =
        let n : number_of f.refusal ≡ 0 = ap (λ (x : Reply). x.number) (is ∙ ap reply_of e) in absurd (omega (arith, numbered f.refusal))
