-- Quoted texts as bytes.
use Rattle.std.specs.Prelude.{ℕ, List, [] as []ᴸ, ◌∷◌ as ◌∷ᴸ◌, ◌++◌}
use Prim.Native.Char.{code}
use Prim.Native.String.{String, [], ◌∷◌}
use Rattle.text.specs.Name.{padded}

-- a byte for each character, all of them ASCII
abbrev pub bytes : String → List ℕ
bytes [] = []ᴸ
bytes (c ∷ s) = code c ∷ᴸ bytes s

-- "Each name is kept as 16 bytes, padded with zeros, predicates first."
abbrev pub named : List String → List ℕ
named []ᴸ = []ᴸ
named (s ∷ᴸ names) = padded (bytes s) ++ named names
