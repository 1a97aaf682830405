-- The numbers of the writer's faults: neither 0 nor 9, so that a reply with number 0 is that of a text that was written, and one with number 9 says that there is no room; nor 10, which is withdrawn.
use Prim.Native.Nat.{ℕ, zero, suc, ◌+◌, ◌*◌}
use native.Mathlib.Omega.{arith}
use mathlib.Core.Path.{◌≡◌, refl}
use mathlib.Core.Bool.{Bool, true, false, cond}
use mathlib.Core.List.{List}
use lib.ListN.{length}
use lib.Dec.{ltb}
use Rattle.program.specs.Reply.{accepted, no_room}
use Rattle.program.specs.Program.{Program}
use Rattle.program.specs.Faults.{Found, fault, sound, faults}
use Rattle.program.proofs.FaultNumbers.{fault_number}
use Rattle.text.specs.Name.{name_bytes}
use Rattle.cells.specs.TextSoFar.{Read, wrong, right, next}
use Rattle.writer.specs.Names.{is_sound, each_name, names_of}
use Rattle.writer.specs.Write.{text_of, written, write_of, room_for, answer_of, reply_of}
use Rattle.round_trips.proofs.ReadFaults.{FaultyBy, either, next_faults}

each_faults : (names : List ℕ) (predicates i n : ℕ) → FaultyBy (each_name names predicates i n)
each_faults names predicates i zero = tt
each_faults names predicates i (suc n) = either FaultyBy (is_sound names predicates i) (each_faults names predicates (suc i) n) (omega arith)

pub names_faults : (names : List ℕ) (predicates symbols : ℕ) → FaultyBy (names_of names predicates symbols)
names_faults names predicates symbols =
    either FaultyBy (ltb (length names) (symbols * name_bytes)) (omega arith)
    (either FaultyBy (ltb (symbols * name_bytes) (length names)) (omega arith) (each_faults names predicates 0 symbols))

pub write_faults : (words names : List ℕ) → FaultyBy (write_of words names)
unfolding write_of
write_faults words names = found (faults words) refl
  where
    found : (o : Found Program) → faults words ≡ o → FaultyBy (written names o)
    found (fault number place) e = fault_number words number place e
    found (sound p) e =
        next_faults (names_of names (length p.predicates) (length p.predicates + length p.functions)) (λ ns. right (text_of p ns))
        (names_faults names (length p.predicates) (length p.predicates + length p.functions)) (λ ns. tt)

accepted_right : (o : Read (List ℕ)) (room : ℕ) → FaultyBy o → (reply_of (next o (room_for room))).number ≡ accepted
    → (text : List ℕ) × (next o (room_for room) ≡ right text)
accepted_right (wrong number place) room h e = absurd (omega arith)
accepted_right (right text) room h e = (text, at (ltb room (length text)) e)
  where
    at : (a : Bool) → (reply_of (cond a (wrong no_room room) (right text))).number ≡ accepted → cond a (wrong no_room room) (right text) ≡ right text
    at true e = absurd (omega arith)
    at false e = refl

-- a reply with number 0 is that of a text that was written
pub accepted_written : (words names : List ℕ) (room : ℕ) → (reply_of (answer_of words names room)).number ≡ accepted
    → (text : List ℕ) × (answer_of words names room ≡ right text)
accepted_written words names room e = accepted_right (write_of words names) room (write_faults words names) e
