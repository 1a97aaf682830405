-- Bytes written into lent room, one behind another, and the place behind them.
use Rattle.std.specs.Prelude.{ℕ, ◌+◌, min, ◌≡◌, List, [], ◌∷◌, length}
use Rattle.std.proofs.lemmas.List.Edits.{sets}

-- the place behind bytes that are written from a place on; one past the room stands for every place past the room
abbrev pub placed : ℕ → ℕ → List ℕ → ℕ
placed room at [] = at
placed room at (b ∷ s) = placed room (min (at + 1) (room + 1)) s

-- s is written into lent room from place `at` on, and r is the place behind it; bytes that have no room are left out
pub record Put (s before after : List ℕ) (at r : ℕ) : Type 0 where
  pub bytes : after ≡ sets before at s
  pub place : r ≡ placed (length before) at s
