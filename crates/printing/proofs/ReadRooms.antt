-- "Room for all words and names": the reader never lacks it, and what it leaves there are the words and the names of the text.
use Prim.Native.Nat.{ℕ, ◌+◌, ◌*◌, ◌≤◌, ◌<◌}
use mathlib.Core.Path.{◌≡◌, refl, sym, ap, ap₂, ◌∙◌}
use mathlib.Core.List.{List}
use native.Mathlib.Omega.{arith}
use lib.ListN.{length, take, get_or}
use borrow.Author.Tests.{le-ltb}
use Rattle.program.specs.Limits.{max_words}
use Rattle.program.specs.Reply.{accepted}
use Rattle.program.specs.declared.reply.Reply.{Reply}
use Rattle.text.specs.Name.{name_bytes, max_names}
use Rattle.cells.specs.TextSoFar.{Read, wrong, right, next, Scenario}
use Rattle.reader.specs.Read.{read_of, in_rooms, answer_of, reply_of, words_in, names_in, Reads}
use Rattle.lister.proofs.Replies.{words_there}
use Rattle.round_trips.proofs.ReadTexts.{text_read}
use Rattle.round_trips.proofs.ReadWrite.{read_sound}
use Rattle.round_trips.proofs.ReadFaults.{accepted_read}
use Rattle.round_trips.proofs.ReadWriteRooms.{names_counted, words_are, names_are}

-- room for the names of all symbols that a program may declare
abbrev pub names_room : ℕ
names_room = max_names * name_bytes

names_few : (text : List ℕ) (s : Scenario) → read_of text ≡ right s → length s.names ≤ names_room
names_few text s e =
    let r = text_read text s e in
    let w = r.program.within r.short in
    omega (arith, r.program.named.sized, w.predicates_most, w.functions_most)

-- the rooms are always enough
pub rooms_enough : (text : List ℕ) → answer_of text max_words names_room ≡ read_of text
rooms_enough text = by (read_of text) refl
  where
    by : (o : Read Scenario) → read_of text ≡ o → next o (in_rooms max_words names_room) ≡ o
    by (wrong number place) e = refl
    by (right s) e = rw (le-ltb max_words (length s.words) (text_read text s e).short, le-ltb names_room (length s.names) (names_few text s e))

-- of a text that was read: the words, as many as the reply counts, and the names, 16 bytes for each symbol that the words declare
pub record ScenarioLeft (text words names : List ℕ) (count : ℕ) : Type 0 where
  pub scenario : Scenario
  pub read : read_of text ≡ right scenario
  pub words_left : take count words ≡ scenario.words
  pub words_fit : count ≤ max_words
  pub counts_there : 2 < count
  pub names_fit : (get_or (take count words) 0 0 + get_or (take count words) 1 0) * name_bytes ≤ names_room
  pub names_left : take ((get_or (take count words) 0 0 + get_or (take count words) 1 0) * name_bytes) names ≡ scenario.names

-- the reply, and what stands in the rooms after it
module _ (text : List ℕ) {words names : List ℕ} {reply : Reply} (promised : Reads text max_words names_room reply (words, names)) where
  replied : reply ≡ reply_of (answer_of text max_words names_room)
  replied = promised.0

  pub refused_unread : (reply.number ≡ accepted → ⊥) → read_of text ≡ wrong reply.number reply.place
  refused_unread is-refused = by (read_of text) refl (replied ∙ ap reply_of (rooms_enough text))
    where
      by : (o : Read Scenario) → read_of text ≡ o → reply ≡ reply_of o → read_of text ≡ wrong reply.number reply.place
      by (wrong number place) e is = e ∙ ap₂ wrong (sym (ap (λ (r : Reply). r.number) is)) (sym (ap (λ (r : Reply). r.place) is))
      by (right s) e is = absurd (is-refused (ap (λ (r : Reply). r.number) is))

  pub accepted_left : reply.number ≡ accepted → ScenarioLeft text words names reply.count
  accepted_left is-accepted = by (accepted_read text max_words names_room (sym (ap (λ (r : Reply). r.number) replied) ∙ is-accepted))
    where
      by : (s : Scenario) × (answer_of text max_words names_room ≡ right s) → ScenarioLeft text words names reply.count
      by (s, e) =
          let left : words ≡ words_in max_words (answer_of text max_words names_room) = ap (λ (l : List ℕ × List ℕ). l.0) promised.1 in
          let left' : names ≡ names_in names_room (answer_of text max_words names_room) = ap (λ (l : List ℕ × List ℕ). l.1) promised.1 in
          let is : read_of text ≡ right s = sym (rooms_enough text) ∙ e in
          let sound = read_sound text s is in
          let counted : reply.count ≡ length s.words = ap (λ (r : Reply). r.count) (replied ∙ ap reply_of e) in
          let front : take reply.count words ≡ s.words = ap₂ take (ap (λ (r : Reply). r.count) replied) left ∙ words_are text max_words names_room s e in
          let symbols = names_counted text s is in
          let few = names_few text s is in
          let named = names_are text max_words names_room s e in
          record {
            scenario = s;
            read = is;
            words_left = front;
            words_fit = omega (arith, counted, (text_read text s is).short);
            counts_there = omega (arith, counted, words_there s.words sound.program sound.accepted);
            names_fit = rw (front, symbols) few;
            names_left = rw (front, left', ← words_are text max_words names_room s e) named;
          }
