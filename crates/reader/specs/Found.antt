-- When the answer for a text is right.
use Rattle.std.specs.Prelude.{ℕ, ◌*◌, ◌≤◌, ◌≡◌, Result, Ok, List, length}
use Rattle.program.specs.Limits.{max_words}
use Rattle.program.specs.declared.reply.Fault.{Fault}
use Rattle.text.specs.Name.{name_bytes, max_names}
use Rattle.text.specs.Room.{in_room}
use Rattle.cells.specs.TextSoFar.{Read, wrong, right, reading_of, Scenario}
use Rattle.declarations.specs.declared.lined.Sizes.{Sizes}
use Rattle.declarations.specs.Held.{sizes_of}

-- a text was read as it should be
abbrev pub FoundAs : List ℕ → List ℕ → Result Sizes Fault → Read Scenario → Type 0
FoundAs names words r (wrong number place) = reading_of r ≡ wrong number place
FoundAs names words r (right s) =
    (r ≡ Ok (sizes_of s)) × (words ≡ in_room max_words s.words) × (names ≡ in_room (max_names * name_bytes) s.names)
    × (length s.names ≤ max_names * name_bytes)
