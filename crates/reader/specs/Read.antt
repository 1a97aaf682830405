-- `read_of`: a scenario text's faults, or its words and names; and what `read` hands back of it.
use Rattle.std.specs.Prelude.{ℕ, ◌≡◌, cond, List, [], length, ltb}
use Rattle.program.specs.Limits.{max_words, max_bytes}
use Rattle.program.specs.Reply.{too_long, no_room, refused, done}
use Rattle.program.specs.declared.reply.Reply.{Reply}
use Rattle.text.specs.Room.{in_room}
use Rattle.text.specs.Line.{parts, line_feed}
use Rattle.cells.specs.TextSoFar.{Read, wrong, right, next, nothing, Scenario}
use Rattle.text_lines.specs.Lines.{all_lines}

-- "for a text whose words are too many, its length"
abbrev pub counted : ℕ → Scenario → Read Scenario
counted size s = cond (ltb max_words (length s.words)) (wrong too_long size) (right s)

-- "The length comes first (8), then faults from left to right, then a text's word count (8)"
unfoldable pub read_of : List ℕ → Read Scenario
read_of text = cond (ltb max_bytes (length text)) (wrong too_long max_bytes) (next (all_lines nothing 0 (parts line_feed text)) (counted (length text)))

-- "then room (9), words before names": what is found, for so many words and so many bytes of names
abbrev pub in_rooms : ℕ → ℕ → Scenario → Read Scenario
in_rooms words names s =
    cond (ltb words (length s.words)) (wrong no_room words)
    (cond (ltb names (length s.names)) (wrong no_room names) (right s))

abbrev pub answer_of : List ℕ → ℕ → ℕ → Read Scenario
answer_of text words names = next (read_of text) (in_rooms words names)

-- "a count of what was written (.. the reader: words ..; 0 when refused)"
abbrev pub reply_of : Read Scenario → Reply
reply_of (wrong number place) = refused number place
reply_of (right s) = done (length s.words)

-- "lent output past what was written is 0. Every refusal zeroes all lent output."
abbrev pub words_in : ℕ → Read Scenario → List ℕ
words_in room (wrong number place) = in_room room []
words_in room (right s) = in_room room s.words

abbrev pub names_in : ℕ → Read Scenario → List ℕ
names_in room (wrong number place) = in_room room []
names_in room (right s) = in_room room s.names

-- what `read` leaves, with room for so many words and so many bytes of names: words and names
abbrev pub read_left : ℕ → ℕ → Read Scenario → List ℕ × List ℕ
read_left words names answer = (words_in words answer, names_in names answer)

-- the promise of `read`: of a text and the two rooms, the reply and what is left in them
abbrev pub Reads : List ℕ → ℕ → ℕ → Reply → List ℕ × List ℕ → Type 0
Reads text words names reply left = (reply ≡ reply_of (answer_of text words names)) × (left ≡ read_left words names (answer_of text words names))
