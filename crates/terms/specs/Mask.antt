-- Masks and sets of variables, over any number of variables.
use Rattle.std.specs.Prelude.{ℕ, ◌/◌, ◌%◌, ◌^◌, ◌≡◌, ◌↔◌}

-- the numbers of a mark: "0 any, 1 ground"
abbrev pub any : ℕ
any = 0

abbrev pub grounded : ℕ
grounded = 1

-- the mark that a mask has for variable v
abbrev pub mark_of : ℕ → ℕ → ℕ
mark_of mask v = mask / 2 ^ v % 2

-- "A mask has bit v set where variable v is ground." A set of variables is kept the same way: bit v is set where v is in it.
abbrev pub Has : ℕ → ℕ → Type 0
Has mask v = mark_of mask v ≡ grounded

-- the mask that marks exactly the variables of which P holds; there is at most one
abbrev pub Marks : (ℕ → Type 0) → ℕ → Type 0
Marks P mask = (v : ℕ) → Has mask v ↔ P v
