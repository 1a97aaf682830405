-- What a reading place finds: the cell there and the place after it, or the end.
use Rattle.std.specs.Prelude.{ℕ, ◌+◌, List, length, get_or, ltb, Option, Some, None}
use Rattle.terms.specs.Cells.{pick}
use Rattle.terms.specs.declared.cursor.Cursor.{Cursor}

-- "A reading place moves one cell on and is handed back by value."
abbrev pub step_at : List ℕ → ℕ → Option (ℕ × Cursor)
step_at cells at = pick (ltb at (length cells)) (Some (get_or cells at 0, record { at = at + 1 })) None
