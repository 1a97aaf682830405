-- The mode table, the first analysis: the words of its rows, its table, and its promise.
use Rattle.std.specs.Prelude.{ℕ, List, [], ◌∷◌}
use Rattle.marks.specs.Modes.{modes}
use Rattle.program.specs.Program.{Program}
use Rattle.program.specs.Limits.{row_size}
use Rattle.program.specs.Faults.{faults}
use Rattle.program.specs.declared.reply.Reply.{Reply}
use Rattle.table.specs.Rules.{Row, call, cont, solution, Gives}
use Rattle.table.specs.Analysis.{Analysis, Dated, dated_words, all_words, Ascends, room_of, IsTable, Exceeds}
use Rattle.table.specs.Promise.{PromiseOf}

-- "kind (1 call, 2 cont, 3 solution), a, b, mask. For calls and solutions a is the shape, b is 0; for conts a is the clause (from 1), b the place."
abbrev pub row_words : Row ℕ → List ℕ
row_words (call s M) = 1 ∷ s ∷ 0 ∷ M ∷ []
row_words (cont n i M) = 2 ∷ n ∷ i ∷ M ∷ []
row_words (solution s M) = 3 ∷ s ∷ 0 ∷ M ∷ []

abbrev pub mask : Row ℕ → ℕ
mask (call s M) = M
mask (cont n i M) = M
mask (solution s M) = M

-- the rows that the mode rules give from the goal's call
abbrev pub mode_analysis : Program → Analysis
mode_analysis p = record { Row = Row ℕ; start = call 0 p.grounded; Rules = Gives modes p; words = row_words; size = row_size }

-- a row with its round
abbrev pub Entry : Type 0
Entry = Dated (Row ℕ)

abbrev pub entry_words : Entry → List ℕ
entry_words = dated_words row_words

abbrev pub table_words : List Entry → List ℕ
table_words = all_words row_words

-- "Rows stand in ascending order of their five words. A row appears once"
abbrev pub Ascending : List Entry → Type 0
Ascending = Ascends row_words

-- "The room in rows is the length over five, rounded down, but at most 4,096."
abbrev pub room_in : ℕ → ℕ
room_in = room_of row_size

-- the table of a program, and when the least set has more than n rows
abbrev pub TableOf : Program → List Entry → Type 0
TableOf p = IsTable (mode_analysis p)

abbrev pub MoreThan : Program → ℕ → Type 0
MoreThan p = Exceeds (mode_analysis p)

-- what the analysis of these words promises, with so many words of table lent
abbrev pub Promise : List ℕ → ℕ → Reply → List ℕ → Type 0
Promise words = PromiseOf mode_analysis (faults words)
