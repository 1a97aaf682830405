-- Demand 1 of `read` and of `write`, whose promises are equations: by cases of what is found in the input, and of the room.
use Prim.Native.Nat.{ℕ, ◌<◌}
use native.Mathlib.Omega.{arith}
use mathlib.Core.Path.{◌≡◌, refl, ap}
use mathlib.Core.Bool.{Bool, true, false, cond}
use mathlib.Core.Logic.{◌⊎◌, inl, inr, ◌↔◌}
use mathlib.Core.List.{List, []}
use lib.ListN.{length, replicate}
use lib.Dec.{ltb}
use borrow.Author.Tests.{ltb-true, ltb-false}
use Rattle.program.specs.Reply.{accepted, no_room, withdrawn}
use Rattle.text.specs.Room.{in_room}
use Rattle.text.proofs.Rooms.{in_room_empty}
use Rattle.cells.specs.TextSoFar.{Read, wrong, right, next, Scenario}
use Rattle.reader.specs.Read as reads
use Rattle.cells.proofs.Readings.{wrong_or_right}
use Rattle.writer.specs.Write as writes
use Rattle.round_trips.proofs.ReadFaults.{FaultyBy, read_faults}
use Rattle.round_trips.proofs.WriteFaults.{write_faults}
use Rattle.demands.specs.Promises.{read_left, Reads, Writes, ReadLarger, WriteLarger}
use Rattle.demands.specs.Replies.{Replies}

-- what is found is one thing
right_once : {A : Type 0} {a b : A} (o : Read A) → o ≡ right a → o ≡ right b → a ≡ b
right_once o d e = cc

module _ (text : List ℕ) (words names : ℕ) where
  abbrev read_zeros : List ℕ × List ℕ
  read_zeros = (replicate words 0, replicate names 0)

  read_zeros_law : (in_room words [], in_room names []) ≡ read_zeros
  read_zeros_law = λ i. (in_room_empty words i, in_room_empty names i)

  -- what is said of an answer
  record ReadAnswer (a : Read Scenario) : Type 0 where
    place : (reads.reply_of a).number ≡ accepted → (reads.reply_of a).place ≡ 0
    zeros : ((reads.reply_of a).number ≡ accepted → ⊥) → ((reads.reply_of a).count ≡ 0) × (read_left words names a ≡ read_zeros)
    room : ((reads.reply_of a).number ≡ no_room) ↔ ReadLarger text words names
    ten : (reads.reply_of a).number ≡ withdrawn → ⊥

  read_fits : (s : Scenario) → reads.read_of text ≡ right s → (a b : Bool) → ltb words (length s.words) ≡ a → ltb names (length s.names) ≡ b
      → ReadAnswer (cond a (wrong no_room words) (cond b (wrong no_room names) (right s)))
  read_fits s e true b d f =
      record { place = λ n. absurd (omega arith); zeros = λ n. (refl, read_zeros_law); room = (λ n. (s, e, inl (ltb-true _ _ d)), λ _. refl); ten = λ n. omega arith }
  read_fits s e false true d f =
      record { place = λ n. absurd (omega arith); zeros = λ n. (refl, read_zeros_law); room = (λ n. (s, e, inr (ltb-true _ _ f)), λ _. refl); ten = λ n. omega arith }
  read_fits s e false false d f =
      record { place = λ n. refl; zeros = λ n. absurd (n refl); room = (λ n. absurd (omega arith), λ (s', e', l). absurd (larger s' (right_once _ e e') l)); ten = λ n. omega arith }
    where
      larger : (s' : Scenario) → s ≡ s' → (words < length s'.words) ⊎ (names < length s'.names) → ⊥
      larger s' same (inl l) = let h = ltb-false words (length s.words) d in let k = ap (λ (x : Scenario). length x.words) same in omega arith
      larger s' same (inr l) = let h = ltb-false names (length s.names) f in let k = ap (λ (x : Scenario). length x.names) same in omega arith

  read_found : (o : Read Scenario) → reads.read_of text ≡ o → FaultyBy o → ReadAnswer (next o (reads.in_rooms words names))
  read_found (wrong number place) e h =
      record { place = λ n. absurd (omega arith); zeros = λ n. (refl, read_zeros_law); room = (λ n. absurd (h.1 n), λ (s, e', l). absurd (wrong_or_right _ e e')); ten = h.2 }
  read_found (right s) e h = read_fits s e (ltb words (length s.words)) (ltb names (length s.names)) refl refl

  pub reading_replies : Replies (Reads text words names) read_zeros (ReadLarger text words names)
  reading_replies =
      let all = read_found (reads.read_of text) refl (read_faults text) in
      record {
        reply = reads.reply_of (reads.answer_of text words names);
        left = read_left words names (reads.answer_of text words names);
        promised = (refl, refl);
        only = λ r o h. h;
        accepted_place = all.place;
        refused_zeros = all.zeros;
        no_room_exactly = all.room;
        never_withdrawn = all.ten;
      }

module _ (words names : List ℕ) (room : ℕ) where
  record WriteAnswer (a : Read (List ℕ)) : Type 0 where
    place : (writes.reply_of a).number ≡ accepted → (writes.reply_of a).place ≡ 0
    zeros : ((writes.reply_of a).number ≡ accepted → ⊥) → ((writes.reply_of a).count ≡ 0) × (writes.text_in room a ≡ replicate room 0)
    room_is : ((writes.reply_of a).number ≡ no_room) ↔ WriteLarger words names room
    ten : (writes.reply_of a).number ≡ withdrawn → ⊥

  write_fits : (text : List ℕ) → writes.write_of words names ≡ right text → (a : Bool) → ltb room (length text) ≡ a → WriteAnswer (cond a (wrong no_room room) (right text))
  write_fits text e true d =
      record { place = λ n. absurd (omega arith); zeros = λ n. (refl, in_room_empty room); room_is = (λ n. (text, e, ltb-true _ _ d), λ _. refl); ten = λ n. omega arith }
  write_fits text e false d =
      record { place = λ n. refl; zeros = λ n. absurd (n refl); room_is = (λ n. absurd (omega arith), λ (text', e', l). absurd (larger text' (right_once _ e e') l)); ten = λ n. omega arith }
    where
      larger : (text' : List ℕ) → text ≡ text' → room < length text' → ⊥
      larger text' same l = let h = ltb-false room (length text) d in let k = ap length same in omega arith

  write_found : (o : Read (List ℕ)) → writes.write_of words names ≡ o → FaultyBy o → WriteAnswer (next o (writes.room_for room))
  write_found (wrong number place) e h =
      record { place = λ n. absurd (omega arith); zeros = λ n. (refl, in_room_empty room); room_is = (λ n. absurd (h.1 n), λ (t, e', l). absurd (wrong_or_right _ e e')); ten = h.2 }
  write_found (right text) e h = write_fits text e (ltb room (length text)) refl

  pub writing_replies : Replies (Writes words names room) (replicate room 0) (WriteLarger words names room)
  writing_replies =
      let all = write_found (writes.write_of words names) refl (write_faults words names) in
      record {
        reply = writes.reply_of (writes.answer_of words names room);
        left = writes.text_in room (writes.answer_of words names room);
        promised = (refl, refl);
        only = λ r o h. h;
        accepted_place = all.place;
        refused_zeros = all.zeros;
        no_room_exactly = all.room_is;
        never_withdrawn = all.ten;
      }
