-- Document 01's listing of *Legs*, computed; what the promise says of it with room, a byte less and a row less; `-` for no variables.
use Prim.Native.Nat.{ℕ}
use native.Mathlib.Decide.{ℕ_discrete}
use native.Mathlib.Omega.{arith}
use mathlib.Core.Path.{◌≡◌, refl}
use mathlib.Core.List.{List, [], ◌∷◌}
use lib.ListN.{replicate}
use Rattle.terms.specs.Term.{app, nil}
use Rattle.program.specs.Program.{Program}
use Rattle.program.specs.Reply.{no_room, refused, done}
use Rattle.program.proofs.Samples.{legs as legs_words, legs_read}
use Rattle.table.specs.Rules.{call, cont}
use Rattle.table.proofs.Samples.{legs}
use Rattle.table.proofs.TableSamples.{entry, legs_entries, legs_table, legs_accepted, legs_no_room}
use Rattle.cells.specs.TextSoFar.{right}
use Rattle.lister.specs.Listing.{listing_of}
use Rattle.lister.specs.ListingPromise.{names_for, Rows, ListingPromise, unlisted, over, listed}

-- `follow`, `leg`, `a`, `b`: "Each name is kept as 16 bytes, padded with zeros, predicates first."
abbrev pub legs_names : List ℕ
legs_names =
    102 ∷ 111 ∷ 108 ∷ 108 ∷ 111 ∷ 119 ∷ 0 ∷ 0 ∷ 0 ∷ 0 ∷ 0 ∷ 0 ∷ 0 ∷ 0 ∷ 0 ∷ 0
    ∷ 108 ∷ 101 ∷ 103 ∷ 0 ∷ 0 ∷ 0 ∷ 0 ∷ 0 ∷ 0 ∷ 0 ∷ 0 ∷ 0 ∷ 0 ∷ 0 ∷ 0 ∷ 0
    ∷ 97 ∷ 0 ∷ 0 ∷ 0 ∷ 0 ∷ 0 ∷ 0 ∷ 0 ∷ 0 ∷ 0 ∷ 0 ∷ 0 ∷ 0 ∷ 0 ∷ 0 ∷ 0
    ∷ 98 ∷ 0 ∷ 0 ∷ 0 ∷ 0 ∷ 0 ∷ 0 ∷ 0 ∷ 0 ∷ 0 ∷ 0 ∷ 0 ∷ 0 ∷ 0 ∷ 0 ∷ 0
    ∷ []

-- modes 1
-- shape 0 follow V0 V1
-- shape 1 leg V0 V1
-- call 0 0 ga
-- call 1 1 ga
-- cont 1 1.1 ga
-- sol 2 1 ga
-- sol 2 1 gg
-- sol 3 0 ga
-- sol 3 0 gg
-- end 7
abbrev pub legs_text : List ℕ
legs_text =
    109 ∷ 111 ∷ 100 ∷ 101 ∷ 115 ∷ 9 ∷ 49 ∷ 10
    ∷ 115 ∷ 104 ∷ 97 ∷ 112 ∷ 101 ∷ 9 ∷ 48 ∷ 9 ∷ 102 ∷ 111 ∷ 108 ∷ 108 ∷ 111 ∷ 119 ∷ 9 ∷ 86 ∷ 48 ∷ 9 ∷ 86 ∷ 49 ∷ 10
    ∷ 115 ∷ 104 ∷ 97 ∷ 112 ∷ 101 ∷ 9 ∷ 49 ∷ 9 ∷ 108 ∷ 101 ∷ 103 ∷ 9 ∷ 86 ∷ 48 ∷ 9 ∷ 86 ∷ 49 ∷ 10
    ∷ 99 ∷ 97 ∷ 108 ∷ 108 ∷ 9 ∷ 48 ∷ 9 ∷ 48 ∷ 9 ∷ 103 ∷ 97 ∷ 10
    ∷ 99 ∷ 97 ∷ 108 ∷ 108 ∷ 9 ∷ 49 ∷ 9 ∷ 49 ∷ 9 ∷ 103 ∷ 97 ∷ 10
    ∷ 99 ∷ 111 ∷ 110 ∷ 116 ∷ 9 ∷ 49 ∷ 9 ∷ 49 ∷ 46 ∷ 49 ∷ 9 ∷ 103 ∷ 97 ∷ 10
    ∷ 115 ∷ 111 ∷ 108 ∷ 9 ∷ 50 ∷ 9 ∷ 49 ∷ 9 ∷ 103 ∷ 97 ∷ 10
    ∷ 115 ∷ 111 ∷ 108 ∷ 9 ∷ 50 ∷ 9 ∷ 49 ∷ 9 ∷ 103 ∷ 103 ∷ 10
    ∷ 115 ∷ 111 ∷ 108 ∷ 9 ∷ 51 ∷ 9 ∷ 48 ∷ 9 ∷ 103 ∷ 97 ∷ 10
    ∷ 115 ∷ 111 ∷ 108 ∷ 9 ∷ 51 ∷ 9 ∷ 48 ∷ 9 ∷ 103 ∷ 103 ∷ 10
    ∷ 101 ∷ 110 ∷ 100 ∷ 9 ∷ 55 ∷ 10
    ∷ []

abbrev pub legs_table_words : List ℕ
legs_table_words =
    0 ∷ 1 ∷ 0 ∷ 0 ∷ 1 ∷ 1 ∷ 1 ∷ 1 ∷ 0 ∷ 1 ∷ 1 ∷ 2 ∷ 1 ∷ 1 ∷ 1 ∷ 2 ∷ 3 ∷ 1 ∷ 0 ∷ 1 ∷ 2 ∷ 3 ∷ 1 ∷ 0 ∷ 3
    ∷ 3 ∷ 3 ∷ 0 ∷ 0 ∷ 1 ∷ 3 ∷ 3 ∷ 0 ∷ 0 ∷ 3 ∷ []

-- "Text, then what `modes` prints"
pub legs_listing : listing_of legs legs_names legs_entries ≡ legs_text
unfolding ℕ_discrete
legs_listing = refl

legs_named : names_for legs legs_names ≡ right legs_names
legs_named = refl

legs_rows : Rows legs_words legs_names 35 legs_table_words legs legs_entries
legs_rows = record { program = legs_read; named = legs_named; rows = legs_table; analysed = legs_accepted }

-- "room for 7 rows (35 words) is enough": and 135 bytes are
pub legs_listed : ListingPromise legs_words legs_names 35 135 (done 135) legs_table_words legs_text
unfolding ℕ_discrete
legs_listed = listed legs legs_entries legs_rows (omega arith) refl refl

-- a byte less gives 9 with the room in bytes, and zeros
pub legs_over : ListingPromise legs_words legs_names 35 134 (refused no_room 134) (replicate 35 0) (replicate 134 0)
unfolding ℕ_discrete
legs_over = over legs legs_entries legs_table_words legs_rows (omega arith) (record { reply_is = refl; table_zero = refl; out_zero = refl })

-- "34 words give 9, place 6", whatever the room in bytes
pub legs_unlisted : (room : ℕ) → ListingPromise legs_words legs_names 34 room (refused no_room 6) (replicate 34 0) (replicate room 0)
legs_unlisted room =
    unlisted legs no_room 6 (replicate 34 0) legs_read legs_named legs_no_room (λ e. omega arith) (record { reply_is = refl; table_zero = refl; out_zero = refl })

-- `p :- p`, goal `p`
alone : Program
alone = record { predicates = 0 ∷ []; functions = []; clauses = record { head = app 0 nil; body = app 0 nil ∷ [] } ∷ []; goal = app 0 nil; grounded = 0 }

-- "`-` for none":
-- modes 1
-- shape 0 p
-- call 0 0 -
-- cont 1 1.1 -
-- end 2
alone_listing :
    listing_of alone (112 ∷ replicate 15 0) (entry 0 (call 0 0) ∷ entry 1 (cont 1 1 0) ∷ [])
    ≡ 109 ∷ 111 ∷ 100 ∷ 101 ∷ 115 ∷ 9 ∷ 49 ∷ 10
    ∷ 115 ∷ 104 ∷ 97 ∷ 112 ∷ 101 ∷ 9 ∷ 48 ∷ 9 ∷ 112 ∷ 10
    ∷ 99 ∷ 97 ∷ 108 ∷ 108 ∷ 9 ∷ 48 ∷ 9 ∷ 48 ∷ 9 ∷ 45 ∷ 10
    ∷ 99 ∷ 111 ∷ 110 ∷ 116 ∷ 9 ∷ 49 ∷ 9 ∷ 49 ∷ 46 ∷ 49 ∷ 9 ∷ 45 ∷ 10
    ∷ 101 ∷ 110 ∷ 100 ∷ 9 ∷ 50 ∷ 10
    ∷ []
unfolding alone ℕ_discrete
alone_listing = refl
