-- From words to words in lent rooms: what `write` leaves in its room, `read` gives back as the words and the names that were written.
use Prim.Native.Nat.{ℕ, ◌≤◌}
use native.Mathlib.Omega.{arith}
use mathlib.Core.Path.{◌≡◌, refl, ap, ◌∙◌}
use mathlib.Core.List.{List}
use lib.ListN.{length, take}
use lib.Dec.{ltb}
use borrow.Author.Tests.{le-ltb, ltb-false}
use Rattle.program.specs.Limits.{max_bytes}
use Rattle.program.specs.Reply.{accepted, no_room, done}
use Rattle.text.specs.Room.{in_room}
use Rattle.cells.specs.TextSoFar.{right}
use Rattle.reader.specs.Read.{answer_of, reply_of, words_in, names_in}
use Rattle.reader.proofs.Hands.{front_is}
use Rattle.writer.specs.Write as writes
use Rattle.round_trips.proofs.ReadParts.{next_right, second_right}
use Rattle.round_trips.proofs.WriteFaults.{accepted_written}
use Rattle.round_trips.proofs.WriteRead.{scenario, write_read, write_short}

-- `read` replies that all the words were read, and the words and the names are what stands in the rooms
pub record ReadsBack (text : List ℕ) (words-room names-room : ℕ) (words names : List ℕ) : Type 0 where
  pub reply : reply_of (answer_of text words-room names-room) ≡ done (length words)
  pub words_back : words_in words-room (answer_of text words-room names-room) ≡ in_room words-room words
  pub names_back : names_in names-room (answer_of text words-room names-room) ≡ in_room names-room names
  pub words_first : take (length words) (words_in words-room (answer_of text words-room names-room)) ≡ words
  pub names_first : take (length names) (names_in names-room (answer_of text words-room names-room)) ≡ names

pub reads_back : (words names text : List ℕ) (words-room names-room : ℕ) → writes.write_of words names ≡ right text
    → length words ≤ words-room → length names ≤ names-room → ReadsBack text words-room names-room words names
reads_back words names text words-room names-room e h k =
    let all : answer_of text words-room names-room ≡ right (scenario words names)
    = rw (write_read words names text e, le-ltb words-room (length words) h, le-ltb names-room (length names) k) in
    record {
      reply = rw all;
      words_back = rw all;
      names_back = rw all;
      words_first = rw all (front_is words-room words (in_room words-room words) refl h);
      names_first = rw all (front_is names-room names (in_room names-room names) refl k);
    }

-- words and names, and the length of the room that is lent to `write`
module _ (words names : List ℕ) (room : ℕ) where
  -- the text that was written: as many bytes as the reply counts
  abbrev pub text_written : List ℕ
  text_written = take (writes.reply_of (writes.answer_of words names room)).count (writes.text_in room (writes.answer_of words names room))

  text_is : (text : List ℕ) → writes.answer_of words names room ≡ right text → (writes.write_of words names ≡ right text) × (text_written ≡ text)
  text_is text e =
      let one = next_right (writes.write_of words names) (writes.room_for room) text e in
      let two = second_right (ltb room (length one.0)) (right one.0) no_room room text one.2 in
      let same : one.0 ≡ text = cc two.1 in
      let short : length one.0 ≤ room = ltb-false room (length one.0) two.0 in
      (one.1 ∙ ap right same, rw e (front_is room text (in_room room text) refl (rw same at short)))

  -- "write" accepted, then "read" with room for the words and the names gives them back
  pub write_read_rooms : (writes.reply_of (writes.answer_of words names room)).number ≡ accepted → (words-room names-room : ℕ)
      → length words ≤ words-room → length names ≤ names-room → ReadsBack text_written words-room names-room words names
  write_read_rooms e words-room names-room h k =
      let w = accepted_written words names room e in
      let text = text_is w.0 w.1 in
      rw text.1 (reads_back words names w.0 words-room names-room text.0 h k)

-- a program with sound names is written in every room of 40,960 bytes
pub room_enough : (words names text : List ℕ) (room : ℕ) → writes.write_of words names ≡ right text → max_bytes ≤ room
    → writes.reply_of (writes.answer_of words names room) ≡ done (length text)
room_enough words names text room e h =
    let short = write_short words names text e in
    let fits : length text ≤ room = omega arith in
    rw (e, le-ltb room (length text) fits)
