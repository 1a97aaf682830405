-- The end of the analysis: the complete rows in the table, and the table of the program made of them.
use Rattle.std.specs.Prelude.{ℕ, ◌-◌, ◌*◌, ◌≡◌, List, ◌++◌, length, replicate}
use Rattle.program.specs.Program.{Program}
use Rattle.program.specs.Limits.{row_size}
use Rattle.table.specs.Table.{Entry, table_words, TableOf}
use Rattle.steps.specs.Situation.{Setting}
use Rattle.rounds.specs.Rounds.{Complete}

pub record FinishAsked (words dir table : List ℕ) (rows : ℕ) : Type 0 where
  pub p : Program
  pub setting : Setting words dir p
  pub complete : Complete p table rows

-- the table of the program stands in so many words
pub record InTable (p : Program) (rows size : ℕ) (table : List ℕ) : Type 0 where
  pub entries : List Entry
  pub table_of : TableOf p entries
  pub many : length entries ≡ rows
  pub words : table ≡ table_words entries ++ replicate (size - row_size * rows) 0
