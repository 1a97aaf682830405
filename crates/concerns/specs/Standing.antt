-- What stands where: a row of the program in the table, and a body atom in the directory.
use Rattle.std.specs.Prelude.{ℕ, ◌≡◌, List}
use Rattle.program.specs.Program.{Program}
use Rattle.rows.specs.Rows.{slot_at, mask_at}
use Rattle.table.specs.Rules.{Row}
use Rattle.table.specs.Table.{mask}
use Rattle.table.specs.Keys.{Regular, slot_of}
use Rattle.steps.specs.Situation.{Setting, BodyOf}

-- row r of the table is this row of the program
pub record Stands (words dir table : List ℕ) (r : ℕ) : Type 0 where
  pub p : Program
  pub setting : Setting words dir p
  pub row : Row ℕ
  pub regular : Regular p row
  pub slot : slot_at table r ≡ slot_of p row
  pub its_mask : mask_at table r ≡ mask row

-- body atom j is one of the program
pub record Belongs (words dir : List ℕ) (j : ℕ) : Type 0 where
  pub p : Program
  pub setting : Setting words dir p
  pub body : BodyOf p j
