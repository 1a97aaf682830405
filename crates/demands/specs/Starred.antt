-- The starred samples of document 01, with the cases that they name, as one list.
use Rattle.std.specs.Prelude.{List, [], ◌∷◌, replicate}
use Rattle.program.specs.Reply.{too_soon, bad_variable, long_atom}
use Rattle.table.specs.Rules.{call}
use Rattle.demands.specs.Sample.{◌in_round◌, Sample, says, misread, leaves, too_many, lists, prints, faulty}
use Rattle.demands.specs.SamplePrograms.{legs_text, legs_words, legs_names, legs_rows, legs_listing, itself_text, itself_words, late_text, late_words, late_rows}
use Rattle.demands.specs.SamplePrograms.{cells_32_text, cells_33_text, nested_words, v15_text, v16_text, many_words}

abbrev pub starred : List Sample
starred =
    -- "*Legs*: room for 7 rows (35 words) is enough; 34 words give 9, place 6."
    says legs_text legs_words legs_names
    ∷ leaves legs_words 35 legs_rows
    ∷ too_many legs_words 34 6
    ∷ lists legs_words legs_names 35 135 legs_rows legs_listing
    -- "Text, then what `modes` prints"
    ∷ prints legs_text legs_listing
    -- "words 1 0 0 0 0 0 (one row); the empty slice (1, place 0)"
    ∷ leaves (1 ∷ 0 ∷ 0 ∷ 0 ∷ 0 ∷ 0 ∷ []) 5 (call 0 0 in_round 0 ∷ [])
    ∷ faulty [] too_soon 0
    -- "`p(V0,V0)` with goal `p(V0,s(V0))` (one row, no solution)"
    ∷ says itself_text itself_words ("p" ∷ "s" ∷ [])
    ∷ leaves itself_words 5 (call 0 0 in_round 0 ∷ [])
    -- "*Late call*"
    ∷ says late_text late_words ("t" ∷ "p" ∷ [])
    ∷ leaves late_words 50 late_rows
    -- "an atom of 32 cells and one of 33"
    ∷ says cells_32_text (nested_words 30) ("p" ∷ "s" ∷ [])
    ∷ leaves (nested_words 30) 5 (call 0 0 in_round 0 ∷ [])
    ∷ misread cells_33_text long_atom 88
    ∷ faulty (nested_words 31) long_atom 37
    -- "`V15` and `V16` in order"
    ∷ says v15_text (many_words 2 (16 ∷ replicate 16 0)) ("p" ∷ "f" ∷ [])
    ∷ leaves (many_words 2 (16 ∷ replicate 16 0)) 5 (call 0 0 in_round 0 ∷ [])
    ∷ misread v16_text bad_variable 84
    ∷ faulty (many_words 3 (32784 ∷ 17 ∷ replicate 17 0)) bad_variable 24
    ∷ []
