-- The fields of a line behind a separator: the next one, and none at the end.
use Prim.Native.Nat.{ℕ, ◌+◌, ◌-◌, ◌≤◌, ◌<◌}
use mathlib.Core.Path.{◌≡◌, sym}
use mathlib.Core.List.{List, [], ◌∷◌}
use native.Mathlib.Omega.{arith}
use native.Mathlib.Numerals.{add-one}
use lib.ListN.{length, drop, length-take, length-drop}
use borrow.Author.Tests.{lt-ltb, le-ltb}
use Rattle.program.specs.Lists.{between}
use Rattle.text.specs.Line.{up_to, behind, tab}
use Rattle.text.proofs.Cuts.{parts_from, part_within}

-- the separator stands at `at`, and the field behind it ends at e
module _ (line : List ℕ) (at e : ℕ) (h : at < length line) (ends : e ≡ at + 1 + length (up_to tab (drop (at + 1) line))) where
  pub field_within : e ≤ length line
  field_within = part_within tab line (at + 1) e (omega arith) ends

  pub field_length : length (between line (at + 1) e) ≡ e - (at + 1)
  field_length = let w = field_within in simp (length-take, length-drop) (omega arith)

  pub behind_next : behind tab line at ≡ between line (at + 1) e ∷ behind tab line e
  behind_next = rw (lt-ltb at (length line) h, sym (add-one at)) (parts_from tab line (at + 1) e (omega arith) ends)

pub behind_none : (line : List ℕ) (at : ℕ) → length line ≤ at → behind tab line at ≡ []
behind_none line at h = rw (le-ltb at (length line) h)
