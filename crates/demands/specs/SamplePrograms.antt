-- The programs of the starred samples, as texts and as words, with the rows and the listing that document 01 gives.
use Rattle.std.specs.Prelude.{ℕ, List, [], ◌∷◌, ◌++◌, replicate}
use Prim.Native.String.{String}
use Rattle.table.specs.Rules.{call, cont, solution}
use Rattle.table.specs.Table.{Entry}
use Rattle.demands.specs.Sample.{◌in_round◌}

-- *Legs*
abbrev pub legs_text : String
legs_text = "pred\tfollow\t2\npred\tleg\t2\nfunc\ta\t0\nfunc\tb\t0\nclause\tfollow\tV0\tV1\tleg\tV0\tV1\nclause\tleg\ta\tb\nclause\tleg\tb\tV0\nquery\tfollow\tG0\tV1\n"

abbrev pub legs_words : List ℕ
legs_words =
    2 ∷ 2 ∷ 3 ∷ 2 ∷ 2 ∷ 0 ∷ 0 ∷ 1 ∷ 0 ∷ 32768 ∷ 32769 ∷ 1 ∷ 32768 ∷ 32769
    ∷ 0 ∷ 1 ∷ 0 ∷ 1 ∷ 0 ∷ 1 ∷ 1 ∷ 32768 ∷ 0 ∷ 32768 ∷ 32769 ∷ 2 ∷ 1 ∷ 0 ∷ []

abbrev pub legs_names : List String
legs_names = "follow" ∷ "leg" ∷ "a" ∷ "b" ∷ []

abbrev pub legs_rows : List Entry
legs_rows =
    call 0 1 in_round 0 ∷ call 1 1 in_round 1 ∷ cont 1 1 1 in_round 1 ∷ solution 1 1 in_round 2 ∷ solution 1 3 in_round 2
    ∷ solution 0 1 in_round 3 ∷ solution 0 3 in_round 3 ∷ []

-- "what `modes` prints"
abbrev pub legs_listing : String
legs_listing = "modes\t1\nshape\t0\tfollow\tV0\tV1\nshape\t1\tleg\tV0\tV1\ncall\t0\t0\tga\ncall\t1\t1\tga\ncont\t1\t1.1\tga\nsol\t2\t1\tga\nsol\t2\t1\tgg\nsol\t3\t0\tga\nsol\t3\t0\tgg\nend\t7\n"

-- "`p(V0,V0)` with goal `p(V0,s(V0))`"
abbrev pub itself_text : String
itself_text = "pred\tp\t2\nfunc\ts\t1\nclause\tp\tV0\tV0\nquery\tp\tV0\ts\tV0\n"

abbrev pub itself_words : List ℕ
itself_words = 1 ∷ 1 ∷ 1 ∷ 2 ∷ 1 ∷ 0 ∷ 0 ∷ 32768 ∷ 32768 ∷ 0 ∷ 32768 ∷ 0 ∷ 32768 ∷ 1 ∷ 0 ∷ []

-- "*Late call*: `t(V0) :- p(V1,V2), p(V0,V3)`, `p(V0,V0)`, goal `t(G0)`"
abbrev pub late_text : String
late_text = "pred\tt\t1\npred\tp\t2\nclause\tt\tV0\tp\tV1\tV2\tp\tV0\tV3\nclause\tp\tV0\tV0\nquery\tt\tG0\n"

abbrev pub late_words : List ℕ
late_words =
    2 ∷ 0 ∷ 2 ∷ 1 ∷ 2 ∷ 2 ∷ 0 ∷ 32768 ∷ 1 ∷ 32769 ∷ 32770 ∷ 1 ∷ 32768 ∷ 32771
    ∷ 0 ∷ 1 ∷ 32768 ∷ 32768 ∷ 0 ∷ 32768 ∷ 1 ∷ 1 ∷ []

-- "nine rows, solutions of p with masks 0 (round 2), 1 and 3 (round 4)"
abbrev pub late_rows : List Entry
late_rows =
    call 0 1 in_round 0 ∷ call 1 0 in_round 1 ∷ cont 1 1 1 in_round 1 ∷ solution 1 0 in_round 2 ∷ call 1 1 in_round 3 ∷ cont 1 2 1 in_round 3
    ∷ solution 0 1 in_round 4 ∷ solution 1 1 in_round 4 ∷ solution 1 3 in_round 4 ∷ []

-- "an atom of 32 cells and one of 33": `p(s(..s(V0)))` with 30 and with 31 times `s`
abbrev pub cells_32_text : String
cells_32_text = "pred\tp\t1\nfunc\ts\t1\nquery\tp\ts\ts\ts\ts\ts\ts\ts\ts\ts\ts\ts\ts\ts\ts\ts\ts\ts\ts\ts\ts\ts\ts\ts\ts\ts\ts\ts\ts\ts\ts\tV0\n"

abbrev pub cells_33_text : String
cells_33_text = "pred\tp\t1\nfunc\ts\t1\nquery\tp\ts\ts\ts\ts\ts\ts\ts\ts\ts\ts\ts\ts\ts\ts\ts\ts\ts\ts\ts\ts\ts\ts\ts\ts\ts\ts\ts\ts\ts\ts\ts\tV0\n"

abbrev pub nested_words : ℕ → List ℕ
nested_words n = 1 ∷ 1 ∷ 0 ∷ 1 ∷ 1 ∷ 0 ∷ replicate n 0 ++ 32768 ∷ 1 ∷ 0 ∷ []

-- "`V15` and `V16` in order": `p(f(V0,..,V7),f(V8,..,V15))`, and `V16` behind them
abbrev pub v15_text : String
v15_text = "pred\tp\t2\nfunc\tf\t8\nquery\tp\tf\tV0\tV1\tV2\tV3\tV4\tV5\tV6\tV7\tf\tV8\tV9\tV10\tV11\tV12\tV13\tV14\tV15\n"

abbrev pub v16_text : String
v16_text = "pred\tp\t3\nfunc\tf\t8\nquery\tp\tf\tV0\tV1\tV2\tV3\tV4\tV5\tV6\tV7\tf\tV8\tV9\tV10\tV11\tV12\tV13\tV14\tV15\tV16\n"

abbrev pub many_words : ℕ → List ℕ → List ℕ
many_words arity rest =
    1 ∷ 1 ∷ 0 ∷ arity ∷ 8
    ∷ 0 ∷ 0 ∷ 32768 ∷ 32769 ∷ 32770 ∷ 32771 ∷ 32772 ∷ 32773 ∷ 32774 ∷ 32775
    ∷ 0 ∷ 32776 ∷ 32777 ∷ 32778 ∷ 32779 ∷ 32780 ∷ 32781 ∷ 32782 ∷ 32783
    ∷ rest
