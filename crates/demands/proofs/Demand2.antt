-- Demand 2: "The table is the least set of rows closed under TR-549's mode rules as document 01 fixes them, no row more or fewer, each with the round in which it
-- first appears. An accepted text, read and written again, is the same text; an encoded program with its names, written and read again, is the same program."
use Prim.Native.Nat.{ℕ, ◌≤◌}
use mathlib.Core.Path.{◌≡◌}
use mathlib.Core.Logic.{◌↔◌}
use mathlib.Core.List.{List}
use lib.ListN.{length, take}
use Rattle.marks.specs.Modes.{modes}
use Rattle.program.specs.Program.{Program}
use Rattle.program.specs.Faults.{sound, faults}
use Rattle.program.specs.Reply.{accepted, done}
use Rattle.program.specs.declared.reply.Reply.{Reply}
use Rattle.table.specs.Rules.{Row}
use Rattle.table.specs.Rounds.{Least}
use Rattle.table.specs.Table.{mode_analysis, room_in, MoreThan}
use Rattle.program.proofs.FoundLaws.{sound_same}
use Rattle.table.proofs.Promise.{modes_computes}
use Rattle.runs.specs.TableRows.{StandsIn}
use Rattle.runs.proofs.TableRuns.{promise_trusted}
use Rattle.cells.specs.TextSoFar.{right, Scenario}
use Rattle.reader.specs.Read.{read_of}
use Rattle.writer.specs.Write.{text_of, write_of}
use Rattle.lister.specs.ListingPromise.{names_for}
use Rattle.round_trips.proofs.ReadWrite.{read_write}
use Rattle.round_trips.proofs.WriteRead.{write_read}
use Rattle.demands.specs.Promises.{Analyses, Reads, words_read, names_read, Writes, text_written}
use Rattle.demands.specs.LeastTable.{LeastTable}
use Rattle.demands.proofs.LeastTables.{accepted_least, room_accepted}
use Rattle.demands.proofs.RoundTrips.{read_then_write, write_then_read}

-- words that say the program p, and a reply and a table that the analysis promises
module _ (words : List ℕ) (p : Program) (says : faults words ≡ sound p)
    (size : ℕ) (reply : Reply) (table : List ℕ) (promised : Analyses words size reply table) where
  -- an accepted table is the least set
  pub table_is_least_set : reply.number ≡ accepted → LeastTable (mode_analysis p) size reply table
  table_is_least_set = accepted_least mode_analysis modes_computes (faults words) size p says reply table promised

  -- so the rows that stand in its words are exactly the rows of the least set
  pub rows_in_words : reply.number ≡ accepted → (row : Row ℕ) → StandsIn reply.count table row ↔ Least modes p p.grounded row
  rows_in_words number-0 =
      let t = promise_trusted words size reply table promised number-0 in rw (sound_same _ t.says says) at t.rows

  -- and it is accepted where the room is enough
  pub enough_room_accepted : (MoreThan p (room_in size) → ⊥) → reply.number ≡ accepted
  enough_room_accepted = room_accepted mode_analysis modes_computes (faults words) size p says reply table promised

-- "An accepted text, read and written again, is the same text": what is found in it, and the bytes
pub text_again : (text : List ℕ) (s : Scenario) → read_of text ≡ right s → write_of s.words s.names ≡ right text
text_again = read_write

-- the same of what `read` and then `write` leave in lent rooms
pub text_again_in_rooms : (text : List ℕ) (words names : ℕ) (reply : Reply) (left : List ℕ × List ℕ) → Reads text words names reply left → reply.number ≡ accepted
    → (room : ℕ) → length text ≤ room → (reply' : Reply) (left' : List ℕ) → Writes (words_read reply left) (names_read reply left) room reply' left'
    → (reply' ≡ done (length text)) × (text_written reply' left' ≡ text)
text_again_in_rooms = read_then_write

-- "an encoded program with its names, written and read again, is the same program"
pub program_again : (words names text : List ℕ) → write_of words names ≡ right text → read_of text ≡ right (record { words = words; names = names })
program_again = write_read

-- every accepted program with sound names is written
pub named_program_written : (words names : List ℕ) (p : Program) → faults words ≡ sound p → names_for p names ≡ right names
    → write_of words names ≡ right (text_of p names)
unfolding write_of
named_program_written words names p says named = rw (says, named)

-- the same of what `write` and then `read` leave in lent rooms
pub program_again_in_rooms : (words names : List ℕ) (room : ℕ) (reply : Reply) (left : List ℕ) → Writes words names room reply left → reply.number ≡ accepted
    → (words-room names-room : ℕ) → length words ≤ words-room → length names ≤ names-room
    → (reply' : Reply) (left' : List ℕ × List ℕ) → Reads (text_written reply left) words-room names-room reply' left'
    → (reply' ≡ done (length words)) × (words_read reply' left' ≡ words) × (take (length names) left'.1 ≡ names)
program_again_in_rooms = write_then_read
