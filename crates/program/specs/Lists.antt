-- Lists: one in which nothing stands twice, and the part of one between two places.
use Rattle.std.specs.Prelude.{ℕ, ◌-◌, take, drop}
use mathlib.Core.List.{List, [], ◌∷◌, Memᴰ}

-- none of the list stands in it twice
abbrev pub Distinct : {A : Type 0} → List A → Type 0
Distinct [] = Unit {0}
Distinct (a ∷ rest) = (Memᴰ a rest → ⊥) × Distinct rest

-- the part from one place up to another
abbrev pub between : List ℕ → ℕ → ℕ → List ℕ
between l from to = take (to - from) (drop from l)
