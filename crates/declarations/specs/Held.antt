-- The text so far, as it stands in the room, and when the answer for a line is right.
use Rattle.std.specs.Prelude.{ℕ, ◌+◌, ◌*◌, ◌≤◌, ◌≡◌, Result, Ok, Err, List, [], ◌∷◌, ◌++◌, length}
use Rattle.program.specs.Limits.{max_declared, max_words}
use Rattle.program.specs.declared.reply.Fault.{Fault}
use Rattle.text.specs.Name.{name_bytes, max_names}
use Rattle.text.specs.Room.{in_room}
use Rattle.cells.specs.TextSoFar.{Read, wrong, right, reading_of, next, func_section, TextSoFar, nothing, later, Scenario, Line, more, last}
use Rattle.cells.specs.Room.{SymbolsHeld}
use Rattle.cells.specs.declared.state.Counts.{Counts}
use Rattle.cells.specs.declared.state.SymbolRoom.{SymbolRoom}
use Rattle.declarations.specs.declared.lined.Sizes.{Sizes}
use Rattle.declarations.specs.declared.lined.Lined.{Lined}
use Rattle.declarations.specs.declared.lined.Lined.TheVariants.{More, Last}

-- how many lines each section has
abbrev pub lines_in : Counts → List ℕ
lines_in c = c.predicates ∷ c.functions ∷ c.clauses ∷ []

abbrev pub text_so_far : Counts → List ℕ → List ℕ → TextSoFar
text_so_far c names words = record { lines = lines_in c; names = names; words = words }

-- the names ns, and the words ws behind room for the counts
pub record Holds (ns ws : List ℕ) (c : Counts) (symbols : SymbolRoom) (words : List ℕ) : Type 0 where
  pub kept : SymbolsHeld ns ws c symbols
  pub word_room : words ≡ in_room max_words (nothing.lines ++ ws)
  pub place : c.words ≡ length nothing.lines + length ws
  pub enough : c.predicates + c.functions ≤ length ws
  pub declared : later (lines_in c) func_section ≡ 0 → length ws ≡ c.predicates + c.functions

abbrev pub more_of : Read TextSoFar → Read Line
more_of o = next o (λ t. right (more t))

-- how many words, and how many bytes of names
abbrev pub sizes_of : Scenario → Sizes
sizes_of s = record { words = length s.words; names = length s.names }

-- a line was read as it should be
abbrev pub LinedAs : SymbolRoom → List ℕ → Result Lined Fault → Read Line → Type 0
LinedAs symbols words r (wrong number place) = reading_of r ≡ wrong number place
LinedAs symbols words r (right (more t)) =
    (c : Counts) × (r ≡ Ok (More c)) × (t ≡ text_so_far c t.names t.words) × Holds t.names t.words c symbols words
LinedAs symbols words r (right (last s)) =
    (r ≡ Ok (Last (sizes_of s))) × (words ≡ in_room max_words s.words) × (symbols.names ≡ in_room (max_names * name_bytes) s.names)
    × (length s.names ≤ max_names * name_bytes)

-- few symbols and clauses
pub record Limited (c : Counts) : Type 0 where
  pub predicates : c.predicates ≤ max_declared
  pub functions : c.functions ≤ max_declared
  pub clauses : c.clauses ≤ max_declared

-- the answer for a line keeps to the limits, with so many words at most
abbrev pub Goes : ℕ → Result Lined Fault → Type 0
Goes most (Err _) = Unit {0}
Goes most (Ok (More c)) = Limited c × (c.words ≤ most)
Goes most (Ok (Last sizes)) = Unit {0}
