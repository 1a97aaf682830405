-- What lent room holds.
use Rattle.std.specs.Prelude.{ℕ, zero, suc, List, [], ◌∷◌}

-- "lent output past what was written is 0": the list in a room of n, and zeros behind it; what has no room is left out
abbrev pub in_room : ℕ → List ℕ → List ℕ
in_room zero xs = []
in_room (suc n) [] = 0 ∷ in_room n []
in_room (suc n) (x ∷ xs) = x ∷ in_room n xs
