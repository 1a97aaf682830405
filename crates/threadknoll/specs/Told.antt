-- A reply as C is told it: the number is handed back, place and count are put where the caller wants them.
use Rattle.std.specs.Prelude.{ℕ}
use Rattle.program.specs.declared.reply.Reply.{Reply}

-- "A reply is a number, a place, and a count of what was written"
abbrev pub told : ℕ → ℕ → ℕ → Reply
told number place count = record { number = number; place = place; count = count }
