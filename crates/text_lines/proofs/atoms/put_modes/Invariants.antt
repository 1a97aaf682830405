-- `text_lines::atoms::put_modes` meets its contract. The loop's invariant: the modes so far stand behind the words. Assumes nothing.
use Prim.Native.Nat.{ℕ, ◌≤◌}
use mathlib.Core.Path.{◌≡◌}
use mathlib.Core.List.{List, ◌++◌}
use lib.ListN.{length, take}
use Rattle.terms.specs.Cells.{variables}
use Rattle.text.specs.Room.{in_room}
use Rattle.text_lines.proofs.atoms.put_modes.Given as goal

abbrev pub invariant-loop-i : goal.invariant-loop-i
invariant-loop-i l = (length l.words ≡ length l.initial.words) × ((room : ℕ) (xs ms : List ℕ) → l.initial.words ≡ in_room room xs → l.at ≡ length xs → l.modes ≡ in_room variables ms → l.count ≡ length ms → l.count ≤ variables → l.words ≡ in_room room (xs ++ take l.i ms))
