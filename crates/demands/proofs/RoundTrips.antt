-- Both round trips through the promises of `read` and `write`, from the laws on what they answer.
use Prim.Native.Nat.{ℕ, ◌≤◌}
use mathlib.Core.Path.{◌≡◌, ◌∙◌}
use mathlib.Core.List.{List}
use lib.ListN.{length, take}
use Rattle.program.specs.Reply.{accepted, done}
use Rattle.program.specs.declared.reply.Reply.{Reply}
use Rattle.round_trips.proofs.ReadWriteRooms.{read_write_rooms}
use Rattle.round_trips.proofs.WriteReadRooms.{write_read_rooms}
use Rattle.demands.specs.Promises.{Reads, words_read, names_read, Writes, text_written}

pub read_then_write : (text : List ℕ) (words names : ℕ) (reply : Reply) (left : List ℕ × List ℕ) → Reads text words names reply left → reply.number ≡ accepted
    → (room : ℕ) → length text ≤ room
    → (reply' : Reply) (left' : List ℕ) → Writes (words_read reply left) (names_read reply left) room reply' left'
    → (reply' ≡ done (length text)) × (text_written reply' left' ≡ text)
read_then_write text words names reply left (e, f) number-0 room fits reply' left' h =
    let again = read_write_rooms text words names (rw e at number-0) room fits in
    let (a, b) = rw (e, f) at h in
    let told = a ∙ again.reply in
    (told, rw (told, b) again.text_first)

pub write_then_read : (words names : List ℕ) (room : ℕ) (reply : Reply) (left : List ℕ) → Writes words names room reply left → reply.number ≡ accepted
    → (words-room names-room : ℕ) → length words ≤ words-room → length names ≤ names-room
    → (reply' : Reply) (left' : List ℕ × List ℕ) → Reads (text_written reply left) words-room names-room reply' left'
    → (reply' ≡ done (length words)) × (words_read reply' left' ≡ words) × (take (length names) left'.1 ≡ names)
write_then_read words names room reply left (e, f) number-0 words-room names-room fits fits' reply' left' h =
    let again = write_read_rooms words names room (rw e at number-0) words-room names-room fits fits' in
    let (a, b) = rw (e, f) at h in
    let told = a ∙ again.reply in
    (told, rw (told, b) again.words_first, rw b again.names_first)
