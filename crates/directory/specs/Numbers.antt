-- The variables of a run of cells, numbered by first appearance. For the code alone: readers go by `shape_of`.
use Rattle.std.specs.Prelude.{ℕ, suc, ◌+◌, ◌-◌, ◌≤◌, ◌<◌, ◌≡◌, ◌⊎◌, length, get_or, ltb}
use mathlib.Core.List.{List, [], ◌∷◌, Memᴰ}
use Rattle.std.proofs.Math.Decide.{ℕ_discrete}
use Rattle.terms.specs.Cells.{first_variable, variables, pick}
use Rattle.program.specs.Shapes.{place, with}

-- the variables after one more cell
abbrev pub met_cell : List ℕ → ℕ → List ℕ
met_cell seen c = pick (ltb c first_variable) seen (with ℕ_discrete seen (c - first_variable))

-- the variables of a run by first appearance, those met before first
abbrev pub met_cells : List ℕ → List ℕ → List ℕ
met_cells seen [] = seen
met_cells seen (c ∷ cs) = met_cells (met_cell seen c) cs

-- the table has 1 + its number for a variable met, and 0 for any other
abbrev pub Known : List ℕ → List ℕ → ℕ → Type 0
Known seen table v =
    ((Memᴰ v seen → ⊥) × (get_or table v 0 ≡ 0)) ⊎ (Memᴰ v seen × (get_or table v 0 ≡ suc (place ℕ_discrete v seen)))

pub record Numbered (seen table : List ℕ) (n : ℕ) : Type 0 where
  pub as_many : length table ≡ variables
  pub count : n ≡ length seen
  pub known : (v : ℕ) → v < variables → Known seen table v

-- a cell with its variable renumbered
abbrev pub renamed : (ℕ → ℕ) → ℕ → ℕ
renamed f c = pick (ltb c first_variable) c (first_variable + f (c - first_variable))

-- the number that a table has for a variable
abbrev pub number_in : List ℕ → ℕ → ℕ
number_in table v = get_or table v 0 - 1

-- a variable's cell whose number is in the table
abbrev pub IsInTable : List ℕ → ℕ → Type 0
IsInTable table c = first_variable ≤ c → (c < first_variable + variables) × (0 < get_or table (c - first_variable) 0) × (get_or table (c - first_variable) 0 ≤ variables)

-- the first i cells of the run stand renumbered from a place of the directory on, and the rest is as before
pub record Renumbered (run table before dir : List ℕ) (to i : ℕ) : Type 0 where
  pub size : length dir ≡ length before
  pub written : (x : ℕ) → x < i → get_or dir (to + x) 0 ≡ renamed (number_in table) (get_or run x 0)
  pub kept : (x : ℕ) → x < to → get_or dir x 0 ≡ get_or before x 0
