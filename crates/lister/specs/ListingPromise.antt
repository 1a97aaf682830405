-- The promise of the lister: its reply, every word of the table and every byte of the listing after it, for every input and every room.
use Rattle.std.specs.Prelude.{ℕ, ◌+◌, ◌≤◌, ◌<◌, ◌≡◌, List, length, replicate}
use Rattle.program.specs.Program.{Program}
use Rattle.program.specs.Faults.{fault, sound, faults}
use Rattle.program.specs.Reply.{accepted, no_room, refused, done}
use Rattle.program.specs.declared.reply.Reply.{Reply}
use Rattle.table.specs.Table.{Entry, TableOf, Promise}
use Rattle.text.specs.Room.{in_room}
use Rattle.cells.specs.TextSoFar.{Read, wrong, right}
use Rattle.writer.specs.Names.{names_of}
use Rattle.lister.specs.Listing.{listing_of}

-- the names, or what is wrong with them
abbrev pub names_for : Program → List ℕ → Read (List ℕ)
names_for p names = names_of names (length p.predicates) (length p.predicates + length p.functions)

-- "Every refusal zeroes all lent output."
pub record Refused (size room number place : ℕ) (reply : Reply) (table out : List ℕ) : Type 0 where
  pub reply_is : reply ≡ refused number place
  pub table_zero : table ≡ replicate size 0
  pub out_zero : out ≡ replicate room 0

-- the program and its names are sound, the analysis has room, and these are the table's rows
pub record Rows (words names : List ℕ) (size : ℕ) (table : List ℕ) (p : Program) (entries : List Entry) : Type 0 where
  pub program : faults words ≡ sound p
  pub named : names_for p names ≡ right names
  pub rows : TableOf p entries
  pub analysed : Promise words size (done (length entries)) table

-- of so many words for the table and so many bytes for the listing
pub data ListingPromise (words names : List ℕ) (size room : ℕ) (reply : Reply) (table out : List ℕ) : Type 0 where
  faulty : (number place : ℕ) → faults words ≡ fault number place → Refused size room number place reply table out
      → ListingPromise words names size room reply table out
  -- "After all faults in the words, writer and lister check the names"
  misnamed : (p : Program) (number place : ℕ) → faults words ≡ sound p → names_for p names ≡ wrong number place
      → Refused size room number place reply table out → ListingPromise words names size room reply table out
  -- "then room (9), .. rows before listing": what the analysis refuses is refused alike
  unlisted : (p : Program) (number place : ℕ) (zeros : List ℕ) → faults words ≡ sound p → names_for p names ≡ right names
      → Promise words size (refused number place) zeros → (number ≡ accepted → ⊥)
      → Refused size room number place reply table out → ListingPromise words names size room reply table out
  -- "the result exceeds the room": "the room: .. bytes"
  over : (p : Program) (entries : List Entry) (full : List ℕ) → Rows words names size full p entries
      → room < length (listing_of p names entries)
      → Refused size room no_room room reply table out → ListingPromise words names size room reply table out
  -- "a count of what was written (.. writer and lister: bytes ..)", "lent output past what was written is 0"
  listed : (p : Program) (entries : List Entry) → Rows words names size table p entries
      → length (listing_of p names entries) ≤ room
      → reply ≡ done (length (listing_of p names entries)) → out ≡ in_room room (listing_of p names entries)
      → ListingPromise words names size room reply table out
