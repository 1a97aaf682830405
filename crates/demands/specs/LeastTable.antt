-- Demand 2 of an accepted table, of whatever analysis: its rows are the least set, no row more or fewer.
use Rattle.std.specs.Prelude.{ℕ, ◌-◌, ◌*◌, ◌<◌, ◌≡◌, ◌↔◌, length, replicate}
use mathlib.Core.List.{List, ◌++◌, map, Memᴰ}
use Rattle.program.specs.Lists.{Distinct}
use Rattle.program.specs.declared.reply.Reply.{Reply}
use Rattle.table.specs.Rounds.{FirstIn, LeastOf}
use Rattle.table.specs.Analysis.{Analysis, Dated, all_words, Ascends}

-- with so many words of table lent
pub record LeastTable (A : Analysis) (size : ℕ) (reply : Reply) (table : List ℕ) : Type 1 where
  -- the rows that stand in the table, each with its round, and as many as the reply counts; "Words after the last row are 0."
  pub entries : List (Dated A.Row)
  pub count_is : reply.count ≡ length entries
  pub words_are : table ≡ all_words A.words entries ++ replicate (size - A.size * length entries) 0
  -- "The table is the least set of rows closed under the mode rules, no row more or fewer"
  pub same_rows : (row : A.Row) → LeastOf A.start A.Rules row ↔ Memᴰ row (map (λ (e : Dated A.Row). e.row) entries)
  -- "each with the round in which it first appears"
  pub rounds : (e : Dated A.Row) → Memᴰ e entries → FirstIn A.start A.Rules e.round e.row
  -- "Rows stand in ascending order of their .. words. A row appears once, and its round is below the number of rows."
  pub ascending : Ascends A.words entries
  pub once : Distinct (map (λ (e : Dated A.Row). e.row) entries)
  pub below : (e : Dated A.Row) → Memᴰ e entries → e.round < length entries
