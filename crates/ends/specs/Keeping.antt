-- The marks on the heads of clauses that are kept between rounds, in lent words.
use Rattle.std.specs.Prelude.{ℕ, ◌*◌, ◌<◌, length}
use mathlib.Core.List.{List, Memᴰ}
use Rattle.terms.specs.Term.{Term}
use Rattle.marks.specs.Pass.{Pass}
use Rattle.program.specs.Program.{Nth, Clause, Program}
use Rattle.program.specs.Shapes.{shapes}
use Rattle.rows.specs.Rows.{keys_of}
use Rattle.rows.specs.KeptSets.{masks_in, KeptAt, known_of, Keeping}
use Rattle.table.specs.Rules.{call, solution}
use Rattle.table.specs.Keys.{row_key}
use Rattle.steps.specs.Steps.{RowsIn}
use Rattle.steps.specs.Situation.{Setting, ClauseOf}
use Rattle.steps.specs.Heads.{HeadMark}

-- marks on a head of at most so many variables are kept: so many words have a bit for each of its masks
abbrev pub kept_vars : ℕ
kept_vars = 9

abbrev pub kept_set : ℕ
kept_set = 32

abbrev pub KeptIn : List ℕ → ℕ → ℕ → Type 0
KeptIn kept k q = KeptAt kept (kept_set * k) q

-- marks q on the head of clause k have gone to the call rows `called`: the solution rows that they give are among the rows `ks`
abbrev pub GoneTo : Program → ℕ → ℕ → List ℕ → List ℕ → Type 0
GoneTo p k q called ks =
    (c : Clause) → Nth p.clauses k c → (s C R : ℕ) (S : Term) → Nth (shapes p) s S → RowsIn p called (call s C) → Pass c.head q S C R
    → Memᴰ (row_key p (solution s R)) ks

-- marks on the head of a clause that result from the first so many rows
abbrev pub MarksOf : (p : Program) → List ℕ → (k : ℕ) → ClauseOf p k → ℕ → ℕ → Type 0
MarksOf p table k w rows q = HeadMark p table 0 rows k (length w.c.body) q

-- for each clause exactly the marks on its head that result from rows that are known, which are some of the first n; they have gone to the call rows
-- that are known, and what they gave is among the rows so far, ks
pub record KeepingMarks (p : Program) (table kept : List ℕ) (n : ℕ) (ks : List ℕ) : Type 0 where
  pub sets : Keeping kept_set (ClauseOf p) (MarksOf p table) kept n
  pub carried : (k q : ℕ) → q < masks_in kept_set → KeptIn kept k q → GoneTo p k q (keys_of table (known_of kept_set kept k)) ks

-- the rows so far are the first m
abbrev pub KeepsMarks : List ℕ → List ℕ → List ℕ → List ℕ → ℕ → ℕ → Type 0
KeepsMarks words dir table kept n m = (p : Program) → Setting words dir p → KeepingMarks p table kept n (keys_of table m)
