-- What `modes` prints for a text: "it, or one line `refused`, number, place".
use Rattle.std.specs.Prelude.{ℕ, ◌*◌, ◌≡◌, cond, List, [], ◌∷◌, take, eqb}
use Rattle.program.specs.Limits.{row_size, max_rows}
use Rattle.program.specs.Reply.{accepted}
use Rattle.program.specs.declared.reply.Reply.{Reply}
use Rattle.text.specs.Decimal.{decimal}
use Rattle.cells.specs.TextSoFar.{wrong, right, Scenario}
use Rattle.reader.specs.Read.{read_of}
use Rattle.written_lines.specs.Tokens.{line}
use Rattle.lister.specs.ListingPromise.{ListingPromise}

-- `refused`
abbrev pub refused_word : List ℕ
refused_word = 114 ∷ 101 ∷ 102 ∷ 117 ∷ 115 ∷ 101 ∷ 100 ∷ []

-- "one line `refused`, number, place. Tabs and LFs are as in the text."
abbrev pub refused_line : ℕ → ℕ → List ℕ
refused_line number place = line refused_word (decimal number ∷ decimal place ∷ [])

-- "with room for .. 4,096 rows and 65,536 bytes"
abbrev pub table_room : ℕ
table_room = row_size * max_rows

abbrev pub listing_room : ℕ
listing_room = 65536

-- "`modes` prints it, or one line": of the lister's reply and the bytes that it leaves, the listing where it is accepted
abbrev pub shown : Reply → List ℕ → List ℕ
shown reply out = cond (eqb reply.number accepted) (take reply.count out) (refused_line reply.number reply.place)

-- of a program with its names
pub record PrintedOf (words names printed : List ℕ) : Type 0 where
  pub reply : Reply
  pub table : List ℕ
  pub out : List ℕ
  pub listed : ListingPromise words names table_room listing_room reply table out
  pub shows : printed ≡ shown reply out

-- of a text: the reader has "room for all words and names", so that what it finds decides
pub data Printed (text printed : List ℕ) : Type 0 where
  unread : (number place : ℕ) → read_of text ≡ wrong number place → printed ≡ refused_line number place → Printed text printed
  read : (s : Scenario) → read_of text ≡ right s → PrintedOf s.words s.names printed → Printed text printed
