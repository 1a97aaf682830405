-- Laws of the rounds of the mode rules, as `RoundsOf` shows them for any rules.
use Prim.Native.Nat.{ℕ, ◌≤◌}
use mathlib.Core.Path.{◌≡◌}
use mathlib.Core.Logic.{◌↔◌}
use Rattle.marks.specs.Domain.{Domain}
use Rattle.program.specs.Program.{Program}
use Rattle.table.specs.Rules.{Row, call, Gives}
use Rattle.table.specs.Rounds.{At, First, Closed, Least, Appears}
use Rattle.table.proofs.RulesOf.{Within}
use Rattle.table.proofs.RuleLaws.{gives_finitary}
use Rattle.table.proofs.RoundsOf.{grows, one_first, some_closed, rounds_within, least_some}

module _ (D : Domain) (p : Program) (goal : D.Mark) where
  pub rounds_grow : (k j : ℕ) → j ≤ k → Within (At D p goal j) (At D p goal k)
  rounds_grow = grows (call 0 goal) (Gives D p)

  pub first_once : (j k : ℕ) (row : Row D.Mark) → First D p goal j row → First D p goal k row → j ≡ k
  first_once = one_first (call 0 goal) (Gives D p)

  pub appears_closed : Closed D p (Appears D p goal)
  appears_closed = some_closed (call 0 goal) (Gives D p) (gives_finitary D p)

  pub at_within : (T : Row D.Mark → Type 0) → Closed D p T → T (call 0 goal) → (k : ℕ) → Within (At D p goal k) T
  at_within = rounds_within (call 0 goal) (Gives D p) (gives_finitary D p)

  pub least_appears : (row : Row D.Mark) → Least D p goal row ↔ Appears D p goal row
  least_appears = least_some (call 0 goal) (Gives D p) (gives_finitary D p)
