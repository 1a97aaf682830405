-- One more symbol in the room.
use Rattle.std.specs.Prelude.{ℕ, ◌*◌, ◌<◌, ◌≡◌, List, ◌++◌, length, set}
use Rattle.text.specs.Name.{name_bytes, padded, hash_of}
use Rattle.text.specs.Room.{in_room}
use Rattle.cells.specs.declared.state.SymbolRoom.{SymbolRoom}

-- a symbol was put behind the others
pub record Added (name : List ℕ) (arity n at : ℕ) (symbols : SymbolRoom) (words : List ℕ) (symbols' : SymbolRoom) (words' : List ℕ) : Type 0 where
  pub within : (n < length symbols.hashes) × (n < length symbols.arities)
  pub named : (room : ℕ) (ns : List ℕ) → symbols.names ≡ in_room room ns → n * name_bytes ≡ length ns → symbols'.names ≡ in_room room (ns ++ padded name)
  pub hashed : symbols'.hashes ≡ set symbols.hashes n (hash_of (padded name))
  pub sized : symbols'.arities ≡ set symbols.arities n arity
  pub word : words' ≡ set words at arity
