-- From text to text in lent rooms: what `read` leaves in its rooms, `write` gives back as the text that was read.
use Prim.Native.Nat.{ℕ, ◌+◌, ◌*◌, ◌≤◌}
use mathlib.Core.Path.{◌≡◌, refl, sym, ap₂, ◌∙◌}
use mathlib.Core.List.{List}
use lib.ListN.{length, get_or, take}
use lib.Dec.{ltb}
use borrow.Author.Tests.{ltb-false, le-ltb}
use Rattle.program.specs.Program.{Program}
use Rattle.program.specs.Within.{encode}
use Rattle.program.specs.Reply.{accepted, no_room, done}
use Rattle.text.specs.Room.{in_room}
use Rattle.text.specs.Name.{name_bytes}
use Rattle.cells.specs.TextSoFar.{right, Scenario}
use Rattle.reader.specs.Read.{read_of, in_rooms, answer_of, reply_of, words_in, names_in}
use Rattle.reader.proofs.Hands.{front_is}
use Rattle.writer.specs.Write as writes
use Rattle.round_trips.proofs.ReadParts.{next_right, second_right}
use Rattle.round_trips.proofs.ReadTexts.{text_read}
use Rattle.round_trips.proofs.ReadWrite.{read_write}
use Rattle.round_trips.proofs.ReadFaults.{accepted_read}

-- what is known of an accepted text and its rooms
record Answered (text : List ℕ) (words names : ℕ) (s : Scenario) : Type 0 where
  read : read_of text ≡ right s
  words_fit : length s.words ≤ words
  names_fit : length s.names ≤ names

answered : (text : List ℕ) (words names : ℕ) (s : Scenario) → answer_of text words names ≡ right s → Answered text words names s
answered text words names s e =
    let one = next_right (read_of text) (in_rooms words names) s e in
    let two = second_right (ltb words (length one.0.words)) _ no_room words s one.2 in
    let three = second_right (ltb names (length one.0.names)) (right one.0) no_room names s two.1 in
    let same : one.0 ≡ s = cc three.1 in
    rw same at (known one.0 one.1 (ltb-false words (length one.0.words) two.0) (ltb-false names (length one.0.names) three.0))
  where
    known : (x : Scenario) → read_of text ≡ right x → length x.words ≤ words → length x.names ≤ names → Answered text words names x
    known x r h k = record { read = r; words_fit = h; names_fit = k }

-- the first two words are the counts of predicates and functions
counts_first : (p : Program) → (get_or (encode p) 0 0 ≡ length p.predicates) × (get_or (encode p) 1 0 ≡ length p.functions)
unfolding encode
counts_first p = (refl, refl)

-- as many names as the words declare symbols
pub names_counted : (text : List ℕ) (s : Scenario) → read_of text ≡ right s → (get_or s.words 0 0 + get_or s.words 1 0) * name_bytes ≡ length s.names
names_counted text s e =
    let r = (text_read text s e).program in
    let counts = counts_first r.program in
    rw (← r.encoded, counts.0, counts.1) (sym r.named.sized)

-- `write` replies that all bytes of the text were written, and the text is what stands in the room
pub record WritesBack (words names : List ℕ) (room : ℕ) (text : List ℕ) : Type 0 where
  pub reply : writes.reply_of (writes.answer_of words names room) ≡ done (length text)
  pub bytes : writes.text_in room (writes.answer_of words names room) ≡ in_room room text
  pub text_first : take (length text) (writes.text_in room (writes.answer_of words names room)) ≡ text

writes_back : (words names : List ℕ) (room : ℕ) (text : List ℕ) → writes.write_of words names ≡ right text → length text ≤ room → WritesBack words names room text
writes_back words names room text e h =
    let all : writes.answer_of words names room ≡ right text = rw (e, le-ltb room (length text) h) in
    record { reply = rw all; bytes = rw all; text_first = rw all (front_is room text (in_room room text) refl h) }

-- a text, and the lengths of the two rooms that are lent to `read`
module _ (text : List ℕ) (words names : ℕ) where
  -- the words that were read: as many as the reply counts
  abbrev pub words_read : List ℕ
  words_read = take (reply_of (answer_of text words names)).count (words_in words (answer_of text words names))

  -- the names that were read: 16 bytes for each symbol that the words declare
  abbrev pub names_read : List ℕ
  names_read = take ((get_or words_read 0 0 + get_or words_read 1 0) * name_bytes) (names_in names (answer_of text words names))

  pub words_are : (s : Scenario) → answer_of text words names ≡ right s → words_read ≡ s.words
  words_are s e = rw e (front_is words s.words (in_room words s.words) refl (answered text words names s e).words_fit)

  pub names_are : (s : Scenario) → answer_of text words names ≡ right s → names_read ≡ s.names
  names_are s e =
      let a = answered text words names s e in
      rw (words_are s e, names_counted text s a.read, e) (front_is names s.names (in_room names s.names) refl a.names_fit)

  -- "read" accepted, then "write" with room for the text gives it back
  pub read_write_rooms : (reply_of (answer_of text words names)).number ≡ accepted → (room : ℕ) → length text ≤ room → WritesBack words_read names_read room text
  read_write_rooms e room h =
      let r = accepted_read text words names e in
      let same-words = words_are r.0 r.1 in
      let same_names = names_are r.0 r.1 in
      let back : writes.write_of r.0.words r.0.names ≡ right text = read_write text r.0 (answered text words names r.0 r.1).read in
      writes_back words_read names_read room text (ap₂ writes.write_of same-words same_names ∙ back) h
