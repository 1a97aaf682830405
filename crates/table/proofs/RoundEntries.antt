-- The entries of the rounds up to the last are the table.
use Prim.Native.Nat.{ℕ, suc}
use mathlib.Core.List.{List}
use Rattle.marks.specs.Modes.{modes}
use Rattle.program.specs.Program.{Program}
use Rattle.table.specs.Rounds.{At}
use Rattle.table.specs.Table.{mode_analysis, Entry, Ascending, TableOf}
use Rattle.table.specs.RoundKeys.{Rounded}
use Rattle.table.proofs.RulesOf.{Within}
use Rattle.table.proofs.RuleLaws.{gives_finitary}
use Rattle.table.proofs.Tables.{last_is_table}

pub rounded_table : (p : Program) (k : ℕ) → Within (At modes p p.grounded (suc k)) (At modes p p.grounded k) → (entries : List Entry) → Ascending entries → Rounded p k entries → TableOf p entries
rounded_table p = last_is_table (mode_analysis p) (gives_finitary modes p)
