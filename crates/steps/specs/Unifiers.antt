-- Unifiers that are noted in lent bytes: what came of shapes that met one atom of the words, in the order in which they met it.
use Rattle.std.specs.Prelude.{ℕ, ◌+◌, ◌*◌, ◌≤◌, ◌≡◌, List, length, get_or}
use Rattle.terms.specs.Unifier.{Apart}
use Rattle.terms.specs.Store.{all_variables}
use Rattle.terms.specs.Bytes.{word_at, WordPut}
use Rattle.terms.specs.Noted.{NotedAt, noted_end}
use Rattle.directory.specs.Layout.{clause_head, clause_cells}
use Rattle.steps.specs.Situation.{Meeting, MetBindings}

-- the notes in the bytes from one place to another. Shape s that is apart from the atom: the word 2s. One that unifies with it: the word
-- 2s + 1, and behind it the bindings that unification left.
pub data NotesIn (words dir : List ℕ) (start cells : ℕ) (unifiers : List ℕ) : ℕ → ℕ → Type 0 where
  none : {to : ℕ} → NotesIn words dir start cells unifiers to to
  apart : {from to : ℕ} (s : ℕ) → word_at unifiers from ≡ 2 * s
      → ((m : Meeting words dir s start cells) → Apart m.S m.A)
      → NotesIn words dir start cells unifiers (from + 2) to → NotesIn words dir start cells unifiers from to
  unified : {from to : ℕ} (s : ℕ) (places : List ℕ) → word_at unifiers from ≡ 2 * s + 1
      → ((m : Meeting words dir s start cells) → MetBindings m.p.functions m.S m.A places)
      → NotedAt unifiers (from + 2) places
      → NotesIn words dir start cells unifiers (noted_end unifiers (from + 2)) to
      → NotesIn words dir start cells unifiers from to

-- the word at byte 0: how many bytes of the notes are taken; that at byte 2: how many bytes the notes have; the notes stand behind these two
abbrev pub taken_at : ℕ
taken_at = 0

abbrev pub noted_at : ℕ
noted_at = 2

abbrev pub first_note : ℕ
first_note = 4

-- every count of bytes is a word
abbrev pub most_bytes : ℕ
most_bytes = 65535

-- bytes that can hold notes
pub record Room (unifiers : List ℕ) : Type 0 where
  pub some : first_note ≤ length unifiers
  pub few : length unifiers ≤ most_bytes

-- the notes end within the bytes
pub record Fitting (unifiers : List ℕ) : Type 0 where
  pub room : Room unifiers
  pub within : first_note + word_at unifiers noted_at ≤ length unifiers

-- where the next note stands that is not taken yet
abbrev pub next_at : List ℕ → ℕ
next_at unifiers = first_note + word_at unifiers taken_at

-- the notes that are not taken yet
pub record Notes (words dir : List ℕ) (start cells : ℕ) (unifiers : List ℕ) : Type 0 where
  pub fitting : Fitting unifiers
  pub left : NotesIn words dir start cells unifiers (next_at unifiers) (first_note + word_at unifiers noted_at)

-- the notes of shapes that met the head of clause k
abbrev pub HeadNotes : List ℕ → List ℕ → ℕ → List ℕ → Type 0
HeadNotes words dir k = Notes words dir (get_or dir (clause_head + k) 0) (get_or dir (clause_cells + k) 0)

-- bytes that hold notes hold them still where a shape that is apart is noted, or where there is no room for it
abbrev pub ApartNoted : ℕ → List ℕ → List ℕ → Type 0
ApartNoted shape before after =
    (words dir : List ℕ) (start cells : ℕ) → Notes words dir start cells before
    → ((m : Meeting words dir shape start cells) → Apart m.S m.A) → Notes words dir start cells after

-- and so where one that unifies is noted, with the bindings of the store that is left
abbrev pub UnifiedNoted : ℕ → List ℕ → List ℕ → List ℕ → Type 0
UnifiedNoted shape places before after =
    (words dir : List ℕ) (start cells : ℕ) → Notes words dir start cells before
    → ((m : Meeting words dir shape start cells) → MetBindings m.p.functions m.S m.A places) → Notes words dir start cells after

-- r is the first word of the next note that is not taken yet
pub record NextWord (unifiers : List ℕ) (r : ℕ) : Type 0 where
  pub left : word_at unifiers taken_at + 2 ≤ word_at unifiers noted_at
  pub is : r ≡ word_at unifiers (next_at unifiers)

-- where the next note ends, if it is of a shape that unifies
abbrev pub next_end : List ℕ → ℕ
next_end unifiers = noted_end unifiers (next_at unifiers + 2)

-- such a note is within the bytes
pub record NextWithin (unifiers : List ℕ) : Type 0 where
  pub room : Room unifiers
  pub within : next_end unifiers ≤ length unifiers

-- it is taken: these are its bindings
pub record NextTaken (before after places : List ℕ) : Type 0 where
  pub end : (e : ℕ) × (first_note + e ≡ next_end before) × WordPut before after taken_at e
  pub all_places : length places ≡ all_variables
  pub noted : NotedAt before (next_at before + 2) places
