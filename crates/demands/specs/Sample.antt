-- What is said of a sample.
use Rattle.std.specs.Prelude.{ℕ, ◌-◌, ◌*◌, ◌≡◌, List, [], ◌∷◌, ◌++◌, length, replicate}
use Prim.Native.String.{String}
use Rattle.program.specs.Reply.{no_room, refused, done}
use Rattle.program.specs.Limits.{row_size}
use Rattle.table.specs.Rules.{Row}
use Rattle.table.specs.Table.{Entry, table_words, Promise}
use Rattle.text.specs.Room.{in_room}
use Rattle.cells.specs.TextSoFar.{wrong, right}
use Rattle.reader.specs.Read.{read_of}
use Rattle.lister.specs.ListingPromise.{ListingPromise}
use Rattle.printing.specs.Printed.{Printed}
use Rattle.demands.specs.Bytes.{bytes, named}

infix 68 ◌in_round◌
infixr 20 ◌and◌
-- a row with its round
abbrev pub ◌in_round◌ : Row ℕ → ℕ → Entry
row in_round k = record { round = k; row = row }

pub data Sample : Type 0 where
  -- the text is read as these words, with these names
  says : (text : String) (words : List ℕ) (names : List String) → Sample
  -- the text is refused with this number and place, whatever the rooms
  misread : (text : String) (number place : ℕ) → Sample
  -- the analysis of the words, with so many words of table lent, leaves exactly these rows
  leaves : (words : List ℕ) (size : ℕ) (rows : List Entry) → Sample
  -- the analysis, with so many words of table lent, has no room: the place is the room in rows
  too_many : (words : List ℕ) (size : ℕ) (room : ℕ) → Sample
  -- the listing of the words with these names, with so many words of table and so many bytes lent, is exactly this, and the table has these rows
  lists : (words : List ℕ) (names : List String) (size room : ℕ) (rows : List Entry) (listing : String) → Sample
  -- for the text `modes` prints exactly this
  prints : (text printed : String) → Sample
  -- the words are refused with this number and place, whatever the room
  faulty : (words : List ℕ) (number place : ℕ) → Sample

-- the words of a table of so many words with these rows: "Words after the last row are 0."
abbrev pub table_of : ℕ → List Entry → List ℕ
table_of size rows = table_words rows ++ replicate (size - row_size * length rows) 0

-- what the definitions must say of it; each promise has one reply and leaves one thing (`Demand1`), and one thing is printed for a text (`printed_unique`)
abbrev pub Holds : Sample → Type 0
Holds (says text words names) = read_of (bytes text) ≡ right (record { words = words; names = named names })
Holds (misread text number place) = read_of (bytes text) ≡ wrong number place
Holds (leaves words size rows) = Promise words size (done (length rows)) (table_of size rows)
Holds (too_many words size room) = Promise words size (refused no_room room) (replicate size 0)
Holds (lists words names size room rows listing) =
    ListingPromise words (named names) size room (done (length (bytes listing))) (table_of size rows) (in_room room (bytes listing))
Holds (prints text printed) = Printed (bytes text) (bytes printed)
Holds (faulty words number place) = (size : ℕ) → Promise words size (refused number place) (replicate size 0)

-- all of a list hold
pub data AllHold : List Sample → Type 0 where
  none : AllHold []
  ◌and◌ : {s : Sample} {samples : List Sample} → Holds s → AllHold samples → AllHold (s ∷ samples)
