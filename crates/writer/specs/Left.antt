-- What an answer leaves in the room before the rest is cleared. For the code alone: readers go by `Write`.
use Rattle.std.specs.Prelude.{ℕ, ◌≡◌, List, length, take, Result, Ok, Err}
use Rattle.program.specs.Reply.{number_of}
use Rattle.program.specs.declared.reply.Fault.{Fault}
use Rattle.cells.specs.TextSoFar.{Read, wrong, right}
use Rattle.writer.specs.Write.{answer_of}

-- the same fault, or the text's length, with the text at the start of the room
abbrev pub Left : Read (List ℕ) → Result ℕ Fault → List ℕ → Type 0
Left (wrong number place) (Err fault) left = (number_of fault.refusal ≡ number) × (fault.place ≡ place)
Left (wrong number place) (Ok end) left = ⊥
Left (right text) (Err fault) left = ⊥
Left (right text) (Ok end) left = (end ≡ length text) × (take end left ≡ text)

-- of words, names and the room as it was
abbrev pub Answers : List ℕ → List ℕ → List ℕ → Result ℕ Fault → List ℕ → Type 0
Answers words names room answer left = (length left ≡ length room) × Left (answer_of words names (length room)) answer left
