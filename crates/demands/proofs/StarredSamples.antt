-- The starred samples one by one, each computed from the definitions.
use Prim.Native.Nat.{ℕ, zero, suc, ◌≤◌}
use native.Mathlib.Omega.{arith}
use native.Mathlib.Decide.{ℕ_discrete, dec_lt}
use mathlib.Core.Path.{◌≡◌, refl, sym}
use mathlib.Core.List.{List, [], ◌∷◌}
use lib.ListN.{replicate}
use Rattle.terms.specs.Term.{Term, Terms, var, app, nil, cons}
use Rattle.program.specs.Reading.{bounded, several}
use Rattle.program.specs.Atoms.{terms, atom, atoms}
use Rattle.program.specs.Program.{Program}
use Rattle.program.specs.Faults.{clause, goal, written, declared, whole, fault, sound, faults}
use Rattle.program.specs.Reply.{bad_variable, long_atom, done}
use Rattle.program.proofs.ListLaws.{listed_decided}
use Rattle.program.proofs.ShapeLaws.{member_decided}
use Rattle.marks.specs.Modes.{modes}
use Rattle.table.specs.Rules.{call}
use Rattle.table.specs.Promise.{listed, full, faulty as by-fault}
use Rattle.table.specs.Table.{room_in}
use Rattle.table.proofs.Computed.{rows_at}
use Rattle.table.proofs.ModesComputed.{modes_lists}
use Rattle.table.proofs.Ordering.{sort}
use Rattle.table.proofs.Samples.{legs, late}
use Rattle.table.proofs.Promise.{more_than_length, table_at, computed_table_law}
use Rattle.table.proofs.TableSamples.{legs_entries, legs_table, late_entries, late_table}
use Rattle.text.specs.Room.{in_room}
use Rattle.cells.specs.TextSoFar.{right}
use Rattle.reader.specs.Read.{read_of}
use Rattle.reader.proofs.Hands.{front_is}
use Rattle.lister.specs.ListingPromise.{names_for, listed as by-listing}
use Rattle.printing.specs.Printed.{table_room, listing_room, PrintedOf, read}
use Rattle.demands.specs.Bytes.{bytes, named}
use Rattle.demands.specs.Sample.{◌in_round◌, table_of, says, misread, leaves, too_many, lists, prints, faulty, Holds}
use Rattle.demands.specs.SamplePrograms.{legs_text, legs_words, legs_names, legs_rows, legs_listing, itself_text, itself_words, late_text, late_words, late_rows}
use Rattle.demands.specs.SamplePrograms.{cells_32_text, cells_33_text, nested_words, v15_text, v16_text, many_words}

-- the texts
pub legs_says : Holds (says legs_text legs_words legs_names)
unfolding read_of
legs_says = refl

pub itself_says : Holds (says itself_text itself_words ("p" ∷ "s" ∷ []))
unfolding read_of
itself_says = refl

pub late_says : Holds (says late_text late_words ("t" ∷ "p" ∷ []))
unfolding read_of
late_says = refl

pub cells_32_says : Holds (says cells_32_text (nested_words 30) ("p" ∷ "s" ∷ []))
unfolding read_of
cells_32_says = refl

pub cells_33_misread : Holds (misread cells_33_text long_atom 88)
unfolding read_of
cells_33_misread = refl

pub v15_says : Holds (says v15_text (many_words 2 (16 ∷ replicate 16 0)) ("p" ∷ "f" ∷ []))
unfolding read_of
v15_says = refl

pub v16_misread : Holds (misread v16_text bad_variable 84)
unfolding read_of
v16_misread = refl

-- *Legs* and *Late call*, from the computed rounds
pub legs_sound : faults legs_words ≡ sound legs
unfolding bounded several terms atom atoms clause goal written declared whole faults
legs_sound = refl

pub legs_leaves : (size : ℕ) → 7 ≤ room_in size → Holds (leaves legs_words size legs_rows)
legs_leaves size room = listed legs legs_entries legs_sound legs_table room refl refl

pub legs_too_many : Holds (too_many legs_words 34 6)
legs_too_many = full legs legs_sound ((more_than_length legs legs_entries legs_table 6).1 (omega arith)) refl refl

legs_named : names_for legs (named legs_names) ≡ right (named legs_names)
legs_named = refl

pub legs_lists : (size room : ℕ) → 7 ≤ room_in size → 135 ≤ room → Holds (lists legs_words legs_names size room legs_rows legs_listing)
unfolding ℕ_discrete
legs_lists size room rows fits =
    by-listing legs legs_rows (record { program = legs_sound; named = legs_named; rows = legs_table; analysed = legs_leaves size rows }) fits refl refl

legs_printed_of : PrintedOf legs_words (named legs_names) (bytes legs_listing)
legs_printed_of = record {
  reply = done 135;
  table = table_of table_room legs_rows;
  out = in_room listing_room (bytes legs_listing);
  listed = legs_lists table_room listing_room (omega arith) (omega arith);
  shows = sym (front_is listing_room (bytes legs_listing) _ refl (omega arith));
}

pub legs_prints : Holds (prints legs_text legs_listing)
legs_prints = read _ legs_says legs_printed_of

late_sound : faults late_words ≡ sound late
unfolding bounded several terms atom atoms clause goal written declared whole faults
late_sound = refl

pub late_leaves : Holds (leaves late_words 50 late_rows)
late_leaves = listed late late_entries late_sound late_table (omega arith) refl refl

-- the occurs check: the goal and the only head are apart
abbrev itself : Program
itself = record {
  predicates = 2 ∷ [];
  functions = 1 ∷ [];
  clauses = record { head = app 0 (cons (var 0) (cons (var 0) nil)); body = [] } ∷ [];
  goal = app 0 (cons (var 0) (cons (app 0 (cons (var 0) nil)) nil));
  grounded = 0;
}

itself_sound : faults itself_words ≡ sound itself
unfolding bounded several terms atom atoms clause goal written declared whole faults
itself_sound = refl

itself_round_1 : rows_at modes modes_lists itself 0 1 ≡ rows_at modes modes_lists itself 0 0
unfolding ℕ_discrete modes_lists listed_decided
itself_round_1 = refl

itself_computed : table_at itself 0 ≡ call 0 0 in_round 0 ∷ []
unfolding ℕ_discrete dec_lt modes_lists listed_decided member_decided sort
itself_computed = refl

pub itself_leaves : Holds (leaves itself_words 5 (call 0 0 in_round 0 ∷ []))
itself_leaves = listed itself _ itself_sound (computed_table_law itself 0 _ itself_round_1 itself_computed) (omega arith) refl refl

-- a goal alone, with no clause: its call is the one row
module _ (predicates functions : List ℕ) (atom' : Term) where
  abbrev alone : Program
  alone = record { predicates = predicates; functions = functions; clauses = []; goal = atom'; grounded = 0 }

  alone_round_1 : rows_at modes modes_lists alone 0 1 ≡ rows_at modes modes_lists alone 0 0
  unfolding ℕ_discrete modes_lists listed_decided
  alone_round_1 = refl

  alone_computed : table_at alone 0 ≡ call 0 0 in_round 0 ∷ []
  unfolding ℕ_discrete dec_lt modes_lists listed_decided member_decided sort
  alone_computed = refl

  alone_leaves : (words : List ℕ) → faults words ≡ sound alone → Holds (leaves words 5 (call 0 0 in_round 0 ∷ []))
  alone_leaves words e = listed alone _ e (computed_table_law alone 0 _ alone_round_1 alone_computed) (omega arith) refl refl

-- `s(..s(V0))`
abbrev nested : ℕ → Term
nested zero = var 0
nested (suc n) = app 0 (cons (nested n) nil)

cells_32_sound : faults (nested_words 30) ≡ sound (alone (1 ∷ []) (1 ∷ []) (app 0 (cons (nested 30) nil)))
unfolding bounded several terms atom atoms clause goal written declared whole faults
cells_32_sound = refl

pub cells_32_leaves : Holds (leaves (nested_words 30) 5 (call 0 0 in_round 0 ∷ []))
cells_32_leaves = alone_leaves (1 ∷ []) (1 ∷ []) (app 0 (cons (nested 30) nil)) (nested_words 30) cells_32_sound

cells_33_fault : faults (nested_words 31) ≡ fault long_atom 37
unfolding bounded several terms atom atoms clause goal written declared whole faults
cells_33_fault = refl

pub cells_33_faulty : Holds (faulty (nested_words 31) long_atom 37)
cells_33_faulty size = by-fault long_atom 37 cells_33_fault refl refl

-- n variables from v on
abbrev variables : ℕ → ℕ → Terms
variables v zero = nil
variables v (suc n) = cons (var v) (variables (suc v) n)

v15_sound : faults (many_words 2 (16 ∷ replicate 16 0))
    ≡ sound (alone (2 ∷ []) (8 ∷ []) (app 0 (cons (app 0 (variables 0 8)) (cons (app 0 (variables 8 8)) nil))))
unfolding bounded several terms atom atoms clause goal written declared whole faults
v15_sound = refl

pub v15_leaves : Holds (leaves (many_words 2 (16 ∷ replicate 16 0)) 5 (call 0 0 in_round 0 ∷ []))
v15_leaves =
    alone_leaves (2 ∷ []) (8 ∷ []) (app 0 (cons (app 0 (variables 0 8)) (cons (app 0 (variables 8 8)) nil)))
    (many_words 2 (16 ∷ replicate 16 0)) v15_sound

v16_fault : faults (many_words 3 (32784 ∷ 17 ∷ replicate 17 0)) ≡ fault bad_variable 24
unfolding bounded several terms atom atoms clause goal written declared whole faults
v16_fault = refl

pub v16_faulty : Holds (faulty (many_words 3 (32784 ∷ 17 ∷ replicate 17 0)) bad_variable 24)
v16_faulty size = by-fault bad_variable 24 v16_fault refl refl
