-- The promise on document 01's samples: *Legs* with room for 7 rows and for 6, *Late call*, the shortest program, and the empty slice.
use Prim.Native.Nat.{ℕ}
use native.Mathlib.Decide.{ℕ_discrete, dec_lt}
use native.Mathlib.Omega.{arith}
use mathlib.Core.Path.{◌≡◌, refl, sym, ◌∙◌}
use mathlib.Core.List.{List, [], ◌∷◌}
use lib.ListN.{replicate}
use Rattle.program.specs.Reading.{bounded, several}
use Rattle.program.specs.Atoms.{terms, atom, atoms}
use Rattle.program.specs.Reply.{too_soon, no_room, refused, done}
use Rattle.terms.specs.Term.{app, nil}
use Rattle.marks.specs.Modes.{modes}
use Rattle.program.specs.Program.{Program}
use Rattle.program.specs.Faults.{clause, goal, written, declared, whole, sound, faults}
use Rattle.program.proofs.ListLaws.{listed_decided}
use Rattle.program.proofs.Samples.{empty_slice, least_program, legs as legs_words, legs_read}
use Rattle.program.proofs.ShapeLaws.{member_decided}
use Rattle.table.specs.Rules.{Row, call, cont, solution}
use Rattle.table.specs.Promise.{faulty, listed, full}
use Rattle.table.specs.Table.{Entry, TableOf, Promise}
use Rattle.table.proofs.Computed.{rows_at}
use Rattle.table.proofs.ModesComputed.{modes_lists}
use Rattle.table.proofs.Samples.{legs, legs_round_3, legs_round_4, late, late_round_4, late_round_5}
use Rattle.table.proofs.Ordering.{sort}
use Rattle.table.proofs.Promise.{more_than_length, table_at, computed_table_law}

abbrev pub entry : ℕ → Row ℕ → Entry
entry k row = record { round = k; row = row }

-- "the empty slice (1, place 0)"
pub empty_slice_promise : (size : ℕ) → Promise [] size (refused too_soon 0) (replicate size 0)
empty_slice_promise size = faulty too_soon 0 empty_slice refl refl

-- what `modes` prints of *Legs*, as entries
abbrev pub legs_entries : List Entry
legs_entries =
    entry 0 (call 0 1) ∷ entry 1 (call 1 1) ∷ entry 1 (cont 1 1 1) ∷ entry 2 (solution 1 1) ∷ entry 2 (solution 1 3)
    ∷ entry 3 (solution 0 1) ∷ entry 3 (solution 0 3) ∷ []

legs_computed : table_at legs 3 ≡ legs_entries
unfolding ℕ_discrete dec_lt modes_lists listed_decided member_decided sort
legs_computed = refl

pub legs_table : TableOf legs legs_entries
legs_table = computed_table_law legs 3 legs_entries (legs_round_4 ∙ sym legs_round_3) legs_computed

-- "*Legs*: room for 7 rows (35 words) is enough"
pub legs_accepted : Promise legs_words 35 (done 7) (
    0 ∷ 1 ∷ 0 ∷ 0 ∷ 1 ∷ 1 ∷ 1 ∷ 1 ∷ 0 ∷ 1 ∷ 1 ∷ 2 ∷ 1 ∷ 1 ∷ 1 ∷ 2 ∷ 3 ∷ 1 ∷ 0 ∷ 1 ∷ 2 ∷ 3 ∷ 1 ∷ 0 ∷ 3
    ∷ 3 ∷ 3 ∷ 0 ∷ 0 ∷ 1 ∷ 3 ∷ 3 ∷ 0 ∷ 0 ∷ 3 ∷ []
    )
legs_accepted = listed legs legs_entries legs_read legs_table (omega arith) refl refl

-- "34 words give 9, place 6"
pub legs_no_room : Promise legs_words 34 (refused no_room 6) (replicate 34 0)
legs_no_room = full legs legs_read ((more_than_length legs legs_entries legs_table 6).1 (omega arith)) refl refl

-- "*Late call*": "nine rows, solutions of p with masks 0 (round 2), 1 and 3 (round 4)"
abbrev pub late_entries : List Entry
late_entries =
    entry 0 (call 0 1) ∷ entry 1 (call 1 0) ∷ entry 1 (cont 1 1 1) ∷ entry 2 (solution 1 0) ∷ entry 3 (call 1 1) ∷ entry 3 (cont 1 2 1)
    ∷ entry 4 (solution 0 1) ∷ entry 4 (solution 1 1) ∷ entry 4 (solution 1 3) ∷ []

late_computed : table_at late 4 ≡ late_entries
unfolding ℕ_discrete dec_lt modes_lists listed_decided member_decided sort
late_computed = refl

pub late_table : TableOf late late_entries
late_table = computed_table_law late 4 late_entries (late_round_5 ∙ sym late_round_4) late_computed

pub late_words : List ℕ
late_words =
    2 ∷ 0 ∷ 2 ∷ 1 ∷ 2 ∷ 2 ∷ 0 ∷ 32768 ∷ 1 ∷ 32769 ∷ 32770 ∷ 1 ∷ 32768 ∷ 32771
    ∷ 0 ∷ 1 ∷ 32768 ∷ 32768 ∷ 0 ∷ 32768 ∷ 1 ∷ 1 ∷ []

pub late_read : faults late_words ≡ sound late
unfolding late_words bounded several terms atom atoms clause goal written declared whole faults
late_read = refl

-- with a row's room to spare: "Words after the last row are 0."
pub late_accepted : Promise late_words 50 (done 9) (
    0 ∷ 1 ∷ 0 ∷ 0 ∷ 1 ∷ 1 ∷ 1 ∷ 1 ∷ 0 ∷ 0 ∷ 1 ∷ 2 ∷ 1 ∷ 1 ∷ 1 ∷ 2 ∷ 3 ∷ 1 ∷ 0 ∷ 0 ∷ 3 ∷ 1 ∷ 1 ∷ 0 ∷ 1
    ∷ 3 ∷ 2 ∷ 1 ∷ 2 ∷ 1 ∷ 4 ∷ 3 ∷ 0 ∷ 0 ∷ 1 ∷ 4 ∷ 3 ∷ 1 ∷ 0 ∷ 1 ∷ 4 ∷ 3 ∷ 1 ∷ 0 ∷ 3 ∷ 0 ∷ 0 ∷ 0 ∷ 0 ∷ 0 ∷ []
    )
late_accepted = listed late late_entries late_read late_table (omega arith) refl refl

-- "words 1 0 0 0 0 0 (one row)"
abbrev pub least : Program
least = record { predicates = 0 ∷ []; functions = []; clauses = []; goal = app 0 nil; grounded = 0 }

least_computed : table_at least 0 ≡ entry 0 (call 0 0) ∷ []
unfolding ℕ_discrete dec_lt modes_lists listed_decided member_decided sort
least_computed = refl

least_round_1 : rows_at modes modes_lists least 0 1 ≡ rows_at modes modes_lists least 0 0
unfolding ℕ_discrete modes_lists listed_decided
least_round_1 = refl

pub least_accepted : Promise (1 ∷ 0 ∷ 0 ∷ 0 ∷ 0 ∷ 0 ∷ []) 5 (done 1) (0 ∷ 1 ∷ 0 ∷ 0 ∷ 0 ∷ [])
least_accepted = listed least (entry 0 (call 0 0) ∷ []) least_program (computed_table_law least 0 (entry 0 (call 0 0) ∷ []) least_round_1 least_computed) (omega arith) refl refl
