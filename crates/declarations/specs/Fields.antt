-- The two fields of a declaration, found in its line.
use Rattle.std.specs.Prelude.{ℕ, ◌+◌, ◌<◌, ◌≡◌, Option, Some, None, List, [], ◌∷◌, length}
use Rattle.program.specs.Reply.{ill_formed}
use Rattle.program.specs.Lists.{between}
use Rattle.text.specs.Line.{behind, tab}
use Rattle.cells.specs.TextSoFar.{TextSoFar, Read, wrong}
use Rattle.declarations.specs.Declarations.{two}

-- the two fields stand before and behind the tab at `middle`; or there are not two, which is a fault wherever the line is
abbrev pub FieldsAs : List ℕ → ℕ → Option ℕ → Type 0
FieldsAs line from None = (at : ℕ) (f : List ℕ → List ℕ → Read TextSoFar) → two at (behind tab line from) f ≡ wrong ill_formed at
FieldsAs line from (Some middle) =
    (from < middle) × (middle < length line)
    × (behind tab line from ≡ between line (from + 1) middle ∷ between line (middle + 1) (length line) ∷ [])
