-- `several` meets its contract. The loop's invariant: the answer for the words that are left is the answer for all.
use Prim.Native.Nat.{◌-◌}
use Rattle.program.specs.Reply.{number_of}
use Rattle.program.specs.Reading.{bounded}
use Rattle.program.proofs.Parts.{Onward}
use Rattle.program.proofs.part.Place.several.Given as goal

abbrev pub invariant-loop : goal.invariant-loop
invariant-loop l = Onward l.self.words.now (bounded (number_of l.refusal) 0 l.high) l.self l.count l.at (l.count - l.counter)
