-- The answers of the lister: what the answers for the words, the names and the table say of them, and which fault decides.
use Prim.Native.Nat.{ℕ, ◌+◌, ◌-◌, ◌*◌, ◌≤◌, ◌<◌}
use native.Mathlib.Omega.{arith}
use mathlib.Core.Path.{◌≡◌, refl, sym, ap, ◌∙◌}
use mathlib.Core.List.{List, ◌++◌, Memᴰ}
use lib.ListN.{length, get_or, replicate}
use Rattle.std.proofs.Common.{Ok, Err}
use Rattle.program.specs.Program.{Program}
use Rattle.program.specs.Faults.{sound, faults, reply_of}
use Rattle.program.specs.Reply.{accepted, no_room, refused, done, number_of, replied, scanned}
use Rattle.program.specs.declared.reply.Reply.{Reply}
use Rattle.program.specs.declared.reply.Fault.{Fault}
use Rattle.program.specs.declared.reply.Refusal.TheVariants.{NoRoom}
use Rattle.program.specs.Limits.{row_size}
use Rattle.program.proofs.FaultNumbers.{accepted_sound}
use Rattle.program.proofs.Checks.{numbered, checked_fault}
use Rattle.program.proofs.ProgramWords.{sound_within}
use Rattle.directory.proofs.AcceptedWords.{said_is, first_three, predicate_count, function_count}
use Rattle.directory.specs.Directory.{Directory}
use Rattle.table.specs.Promise.{faulty as promise-faulty, listed as promise-listed, full}
use Rattle.table.specs.Table.{Entry, table_words, Promise}
use Rattle.table.specs.Keys.{Regular}
use Rattle.program.proofs.FoundLaws.{fault_or_sound, sound_same}
use Rattle.table.proofs.Promise.{table_once, accepted_listed}
use Rattle.table.proofs.Regular.{at_regular}
use Rattle.text.specs.Name.{max_names}
use Rattle.text.specs.Room.{in_room}
use Rattle.text.specs.Put.{Put}
use Rattle.text.proofs.Puts.{put_length, put_count, put_front, put_over}
use Rattle.cells.specs.TextSoFar.{right}
use Rattle.writer.specs.Names.{names_of, names_reply}
use Rattle.writer.proofs.Answers.{names_right, names_fault, names_passed}
use Rattle.lister.specs.Listing.{listing_of}
use Rattle.lister.specs.ListingPromise.{names_for, Refused, Rows, ListingPromise, faulty, misnamed, unlisted, over, listed}
use Rattle.lister.specs.Asked.{ListingAsked}
use Rattle.lister.specs.Left.{Left}

-- how many symbols there are
module _ (words : List ℕ) (p : Program) (e : faults words ≡ sound p) where
  pub words_there : 2 < length words
  words_there = first_three words (p, e)

  pub predicates_counted : get_or words 0 0 ≡ length p.predicates
  predicates_counted = predicate_count words (p, e) ∙ ap (λ (q : Program). length q.predicates) (said_is words p e)

  pub functions_counted : get_or words 1 0 ≡ length p.functions
  functions_counted = function_count words (p, e) ∙ ap (λ (q : Program). length q.functions) (said_is words p e)

  pub symbols_few : length p.predicates + length p.functions ≤ max_names
  symbols_few = let w = sound_within words p e in omega (arith, w.predicates_most, w.functions_most)

  -- the answer for the names, for the counts in the words
  pub names_replied : (names : List ℕ) (r : Reply) (a b : ℕ) → a ≡ get_or words 0 0 → b ≡ get_or words 1 0 → r ≡ names_reply (names_of names a (a + b)) → r ≡ names_reply (names_for p names)
  names_replied names r a b a-is b-is is = rw (a-is ∙ predicates_counted, b-is ∙ functions_counted) at is

  -- names that pass are sound
  pub names_known : (names : List ℕ) (a b : ℕ) → a ≡ get_or words 0 0 → b ≡ get_or words 1 0 → done 0 ≡ names_reply (names_of names a (a + b)) → names_for p names ≡ right names
  names_known names a b a-is b-is is = names_right names _ _ (names_passed names _ _ tt (names_replied names (done 0) a b a-is b-is is))

-- a table with the rows of a program, and the program's directory
pub record Filled (words dir names table : List ℕ) (size rows : ℕ) : Type 0 where
  pub p : Program
  pub entries : List Entry
  pub filled : Rows words names size table p entries
  pub many : rows ≡ length entries
  pub directory : Directory words p dir

-- behind the words, the names and the analysis, for the counts in the words
pub rows_filled : {words dir names table : List ℕ} {size rows a b : ℕ} → done 0 ≡ reply_of (faults words)
    → a ≡ get_or words 0 0 → b ≡ get_or words 1 0 → done 0 ≡ names_reply (names_of names a (a + b))
    → Promise words size (replied (Ok rows)) table → ((q : Program) → faults words ≡ sound q → Directory words q dir) → Filled words dir names table size rows
rows_filled {words} {names = names} {size = size} {rows = rows} {a = a} {b = b} checked a-is b-is named promised directory =
    let (p, e) = accepted_sound words (done 0) checked refl in
    let (q, entries, f, t, d) = accepted_listed words size (done rows) _ promised refl in
    record {
      p = q;
      entries = entries;
      filled = record { program = f; named = rw (sound_same _ e f) at (names_known words p e names a b a-is b-is named); rows = t; analysed = rw d at promised };
      many = ap (λ (x : Reply). x.count) d;
      directory = directory q f;
    }

-- a table with its rows
module _ {words names : List ℕ} {size : ℕ} {table : List ℕ} {p : Program} {entries : List Entry} (w : Rows words names size table p entries) where
  pub rows_words : table ≡ table_words entries ++ replicate (size - row_size * length entries) 0
  rows_words = by w.analysed
    where
      by : Promise words size (done (length entries)) table → table ≡ table_words entries ++ replicate (size - row_size * length entries) 0
      by (promise-faulty number place f e z) = absurd (fault_or_sound _ f w.program)
      by (promise-listed q es f t l e z) =
          let same = table_once p entries es w.rows (rw (sound_same _ f w.program) at t) in
          z ∙ ap (λ (l : List Entry). table_words l ++ replicate (size - row_size * length l) 0) (sym same)
      by (full q f m e z) = absurd (let n : accepted ≡ no_room = ap (λ (x : Reply). x.number) e in omega arith)

  pub rows_regular : (e : Entry) → Memᴰ e entries → Regular p e.row
  rows_regular e m = at_regular words p w.program e.round e.row (w.rows.only e m).0

-- all that the listing is of
abbrev pub listing_asked : {words dir names table : List ℕ} {size rows : ℕ} → Filled words dir names table size rows → ListingAsked words dir names table rows
listing_asked {words} w =
    record {
      tabled = record {
        words = words;
        p = w.p;
        setting = record { accepted = w.filled.program; directory = w.directory };
        entries = w.entries;
        rest = _;
        regular = rows_regular w.filled;
        many = w.many;
        table_is = rows_words w.filled;
      };
      words_are = refl;
      named = w.filled.named;
    }

-- a fault, and zeros everywhere
module _ (words names : List ℕ) (size room : ℕ) (f : Fault) where
  abbrev Refusal-left : Type 0
  Refusal-left = ListingPromise words names size room (replied (Err f)) (replicate size 0) (replicate room 0)

  zeroed : Refused size room (number_of f.refusal) f.place (replied (Err f)) (replicate size 0) (replicate room 0)
  zeroed = record { reply_is = refl; table_zero = refl; out_zero = refl }

  -- the words' faults come first
  pub words_left : scanned (Err f) ≡ reply_of (faults words) → Refusal-left
  words_left is = faulty _ _ (checked_fault words f is) zeroed

  module _ (p : Program) (e : faults words ≡ sound p) where
    -- of accepted words, the names decide next
    pub names_left : scanned (Err f) ≡ names_reply (names_for p names) → Refusal-left
    names_left is = misnamed p _ _ e (names_fault names _ _ f is) zeroed

    -- and then the room for the rows
    pub rows_left : {table : List ℕ} → names_for p names ≡ right names → Promise words size (replied (Err f)) table → Refusal-left
    rows_left n a = unlisted p _ _ _ e n a (λ z. omega (arith, numbered f.refusal)) zeroed

-- the room has no room for the listing, or it holds it
module _ {words dir names table before after : List ℕ} {size rows end : ℕ} (w : Filled words dir names table size rows)
    (put : Put (listing_of w.p names w.entries) before after 0 end) where
  kept : length after ≡ length before
  kept = put_length {s = listing_of w.p names w.entries} put

  pub over_left : length after < end → Left words names size (length before) (Err (record { refusal = NoRoom; place = length after })) table after
  over_left h = over w.p w.entries table w.filled (put_over put (omega (arith, kept))) (record { reply_is = ap (refused no_room) kept; table_zero = refl; out_zero = refl })

  pub fits_left : end ≤ length after → Left words names size (length before) (Ok end) table after
  fits_left h =
      let fits : end ≤ length before = omega (arith, kept) in
      let n = put_count put fits in
      listed w.p w.entries w.filled (omega arith) (ap done (sym n)) (ap (in_room (length before)) (put_front put fits))
