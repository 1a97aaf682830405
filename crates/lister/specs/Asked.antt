-- What the functions that write the listing are asked. For the code alone: readers go by `ListingPromise`.
use Rattle.std.specs.Prelude.{ℕ, ◌≡◌, length}
use mathlib.Core.List.{List, ◌++◌, Memᴰ}
use Rattle.program.specs.Program.{Program}
use Rattle.table.specs.Table.{Entry, table_words}
use Rattle.table.specs.Keys.{Regular}
use Rattle.steps.specs.Situation.{Setting}
use Rattle.cells.specs.TextSoFar.{right}
use Rattle.lister.specs.ListingPromise.{names_for}

-- the rows of an accepted program in the table, and its directory
pub record Tabled (dir table : List ℕ) (rows : ℕ) : Type 0 where
  pub words : List ℕ
  pub p : Program
  pub setting : Setting words dir p
  pub entries : List Entry
  pub rest : List ℕ
  pub regular : (e : Entry) → Memᴰ e entries → Regular p e.row
  pub many : rows ≡ length entries
  pub table_is : table ≡ table_words entries ++ rest

-- all that the listing is of
pub record ListingAsked (words dir names table : List ℕ) (rows : ℕ) : Type 0 where
  pub tabled : Tabled dir table rows
  pub words_are : tabled.words ≡ words
  pub named : names_for tabled.p names ≡ right names
