-- What the code answers for a part of the words, and when that is what the definition reads.
use Rattle.std.specs.Prelude.{ℕ, ◌≤◌, ◌≡◌, List, [], ◌∷◌, length, drop, Result, Ok, Err, ⊤}
use Rattle.program.specs.Reply.{too_soon, number_of}
use Rattle.program.specs.Reading.{Decoded, wrong, right}
use Rattle.program.specs.Atoms.{Cell, Bad, Opens, cell_of}
use Rattle.program.specs.declared.reply.Refusal.{Refusal}
use Rattle.program.specs.declared.reply.Fault.{Fault}
use Rattle.program.specs.declared.part.Place.{Place}
use Rattle.program.specs.declared.cells.Opened.{Opened}

-- the words from a place on
abbrev pub left : Place → List ℕ
left at = drop at.cursor.at at.words.now

-- the same fault at the same place; or what the code has of what was read and of the words after it
abbrev pub Meets : {V A : Type 0} → List ℕ → (List ℕ → V → A → List ℕ → Type 0) → Result V Fault → Decoded A → Type 0
Meets words Has (Err fault) (wrong number rest) =
    (number_of fault.refusal ≡ number) × (fault.place ≤ length words) × (rest ≡ drop fault.place words)
Meets words Has (Err fault) (right a rest) = ⊥
Meets words Has (Ok v) (wrong number rest) = ⊥
Meets words Has (Ok v) (right a rest) = Has words v a rest

-- the place where a part ends
abbrev pub Ends : {A : Type 0} → List ℕ → Place → A → List ℕ → Type 0
Ends words after read rest = (after.words.now ≡ words) × (rest ≡ left after)

-- a word that was read, and the place after it
abbrev pub Itself : List ℕ → ℕ × Place → ℕ → List ℕ → Type 0
Itself words (word, after) read rest = (word ≡ read) × Ends words after read rest

-- of atoms and terms the number of variables met, and the place after them
abbrev pub Met : {A : Type 0} → List ℕ → ℕ × Place → A × ℕ → List ℕ → Type 0
Met words (seen, after) read rest = (seen ≡ read.1) × Ends words after read rest

-- nothing, where the words end
abbrev pub Nothing : {A : Type 0} → List ℕ → ⊤ → A → List ℕ → Type 0
Nothing words v read rest = ⊤

-- the first word
abbrev pub next_word : List ℕ → Decoded ℕ
next_word [] = wrong too_soon []
next_word (w ∷ ws) = right w ws

-- what a cell of an atom comes to, as the code has it
abbrev pub CellAs : Result Opened Refusal → Cell → Type 0
CellAs (Err refusal) (Bad number) = number_of refusal ≡ number
CellAs (Err refusal) (Opens arity seen) = ⊥
CellAs (Ok opened) (Bad number) = ⊥
CellAs (Ok opened) (Opens arity seen) = (opened.arity ≡ arity) × (opened.met ≡ seen)

-- the cell of the first word
abbrev pub cell_at : Cell → ℕ → List ℕ → Decoded (ℕ × ℕ)
cell_at (Bad number) w ws = wrong number (w ∷ ws)
cell_at (Opens arity seen) w ws = right (arity, seen) ws

-- the first cell, of an atom of which so many cells were taken, with so many variables met
abbrev pub next_cell : List ℕ → ℕ → ℕ → List ℕ → Decoded (ℕ × ℕ)
next_cell functions taken seen [] = wrong too_soon []
next_cell functions taken seen (w ∷ ws) = cell_at (cell_of functions taken seen w) w ws

-- of a cell how many terms it asks for and how many variables are met after it, and the place after it
abbrev pub Asks : List ℕ → Opened × Place → ℕ × ℕ → List ℕ → Type 0
Asks words (opened, after) read rest = (opened.arity ≡ read.0) × (opened.met ≡ read.1) × Ends words after read rest
