-- The query, which is the last line, and the words of the whole program behind it.
use Rattle.std.specs.Prelude.{ℕ, ◌≡◌, List, ◌∷◌, ◌++◌, length}
use Rattle.program.specs.Limits.{max_words}
use Rattle.text.specs.Room.{in_room}
use Rattle.cells.specs.TextSoFar.{Read, right, next, Scenario, Line, last}
use Rattle.cells.specs.declared.state.Counts.{Counts}
use Rattle.cells.specs.declared.state.Progress.{Progress}
use Rattle.declarations.specs.Held.{lines_in}

abbrev pub last_of : Read Scenario → Read Line
last_of o = next o (λ s. right (last s))

-- the words of the whole program stand in the room
pub record GoalPut (c : Counts) (p : Progress) (ws ms out words : List ℕ) (count : ℕ) : Type 0 where
  pub all : words ≡ in_room max_words (lines_in c ++ (ws ++ out ++ p.variables ∷ ms))
  pub counted : count ≡ length (lines_in c ++ (ws ++ out ++ p.variables ∷ ms))
