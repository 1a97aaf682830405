-- What an answer leaves in the table and in the room before the rest is cleared. For the code alone: readers go by `ListingPromise`.
use Rattle.std.specs.Prelude.{ℕ, List, take, replicate, Result, Ok, Err}
use Rattle.program.specs.Reply.{replied}
use Rattle.program.specs.declared.reply.Fault.{Fault}
use Rattle.text.specs.Room.{in_room}
use Rattle.lister.specs.ListingPromise.{ListingPromise}

-- with zeros behind so many bytes, or everywhere for a fault, it is what is promised
abbrev pub Left : List ℕ → List ℕ → ℕ → ℕ → Result ℕ Fault → List ℕ → List ℕ → Type 0
Left words names size room (Ok end) table out = ListingPromise words names size room (replied (Ok end)) table (in_room room (take end out))
Left words names size room (Err fault) table out = ListingPromise words names size room (replied (Err fault)) (replicate size 0) (replicate room 0)
