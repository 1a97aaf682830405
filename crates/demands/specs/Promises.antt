-- The promises of the four public functions, each of its reply and of what stands in the lent output after it; the room that is lent; and when the result is larger.
use Rattle.std.specs.Prelude.{ℕ, ◌+◌, ◌*◌, ◌<◌, ◌≡◌, ◌⊎◌, List, length, get_or, take}
use Rattle.program.specs.Program.{Program}
use Rattle.program.specs.Faults.{Found, sound, faults}
use Rattle.program.specs.declared.reply.Reply.{Reply}
use Rattle.table.specs.Analysis.{Analysis, room_of, Exceeds}
use Rattle.table.specs.Table.{mode_analysis, Entry, room_in, TableOf, MoreThan, Promise}
use Rattle.text.specs.Name.{name_bytes}
use Rattle.cells.specs.TextSoFar.{right, Scenario}
use Rattle.reader.specs.Read as reads
-- `read`: of a text, with room for so many words and so many bytes of names; it leaves words and names
pub use Rattle.reader.specs.Read.{read_left, Reads}
use Rattle.writer.specs.Write as writes
-- `write`: of words and names, with room for so many bytes; it leaves a text
pub use Rattle.writer.specs.Write.{Writes}
use Rattle.lister.specs.Listing.{listing_of}
use Rattle.lister.specs.ListingPromise.{names_for, ListingPromise}

-- the words that were read, as many as the reply counts, and their names, 16 bytes for each symbol that the words declare
abbrev pub words_read : Reply → List ℕ × List ℕ → List ℕ
words_read reply left = take reply.count left.0

abbrev pub names_read : Reply → List ℕ × List ℕ → List ℕ
names_read reply left = take ((get_or (words_read reply left) 0 0 + get_or (words_read reply left) 1 0) * name_bytes) left.1

-- the text that was written, as many bytes as the reply counts
abbrev pub text_written : Reply → List ℕ → List ℕ
text_written reply left = take reply.count left

-- `analyse`: of words, with so many words of table lent; it leaves a table
abbrev pub Analyses : List ℕ → ℕ → Reply → List ℕ → Type 0
Analyses words size reply left = Promise words size reply left

-- `list`: of words and names, with so many words of table and so many bytes lent; it leaves a table and a listing
abbrev pub Lists : List ℕ → List ℕ → ℕ → ℕ → Reply → List ℕ × List ℕ → Type 0
Lists words names size room reply left = ListingPromise words names size room reply left.0 left.1

-- "the complete result is larger than the room": the words, or the names
abbrev pub ReadLarger : List ℕ → ℕ → ℕ → Type 0
ReadLarger text words names =
    (s : Scenario) × (reads.read_of text ≡ right s) × ((words < length s.words) ⊎ (names < length s.names))

-- the text
abbrev pub WriteLarger : List ℕ → List ℕ → ℕ → Type 0
WriteLarger words names room = (text : List ℕ) × (writes.write_of words names ≡ right text) × (room < length text)

-- the least set of rows, of what is found in the input
abbrev pub Larger : {X : Type 0} → (X → Analysis) → Found X → ℕ → Type 0
Larger {X} analysis found size = (p : X) × (found ≡ sound p) × Exceeds (analysis p) (room_of (analysis p).size size)

abbrev pub AnalyseLarger : List ℕ → ℕ → Type 0
AnalyseLarger words = Larger mode_analysis (faults words)

-- the least set of rows, or the listing of it
abbrev pub ListLarger : List ℕ → List ℕ → ℕ → ℕ → Type 0
ListLarger words names size room =
    (p : Program) × (faults words ≡ sound p) × (names_for p names ≡ right names)
    × (MoreThan p (room_in size) ⊎ ((entries : List Entry) × TableOf p entries × (room < length (listing_of p names entries))))
