-- The keys and the entries of the rows of the rounds, as the analysis keeps them.
use Rattle.std.specs.Prelude.{ℕ, ◌≤◌, ◌≡◌, ◌↔◌}
use mathlib.Core.List.{List, Memᴰ}
use Rattle.marks.specs.Modes.{modes}
use Rattle.program.specs.Program.{Program}
use Rattle.program.specs.Lists.{Distinct}
use Rattle.table.specs.Rules.{Row}
use Rattle.table.specs.Rounds.{At, First}
use Rattle.table.specs.Table.{Entry}
use Rattle.table.specs.Keys.{row_key}
use Rattle.table.specs.NewRows.{Earlier, NewGives}

-- the keys of a set of rows
abbrev pub Keyed : Program → (Row ℕ → Type 0) → ℕ → Type 0
Keyed p T key = (row : Row ℕ) × T row × (key ≡ row_key p row)

-- these are the keys of the rows, each once
pub record AllKeys (p : Program) (T : Row ℕ → Type 0) (ks : List ℕ) : Type 0 where
  pub distinct : Distinct ks
  pub each : (key : ℕ) → Memᴰ key ks ↔ Keyed p T key

-- the keys of the rows of round k, and of those that it looks at
abbrev pub RoundKeys : Program → ℕ → List ℕ → Type 0
RoundKeys p k ks = AllKeys p (At modes p p.grounded k) ks

abbrev pub Looked : Program → ℕ → ℕ → Type 0
Looked p k = Keyed p (NewGives modes p (Earlier modes p p.grounded k) (At modes p p.grounded k))

-- the entries are those of the rows of the rounds up to k, each with its round
abbrev pub Rounded : Program → ℕ → List Entry → Type 0
Rounded p k entries = (e : Entry) → Memᴰ e entries ↔ ((e.round ≤ k) × First modes p p.grounded e.round e.row)
