-- Names as they are kept: 16 bytes each, one behind another, and how one is found among them.
use Rattle.std.specs.Prelude.{ℕ, zero, suc, ◌+◌, ◌*◌, ◌%◌, ◌≤◌, ◌<◌, Bool, cond, ◌≡◌, List, get_or, take, drop}
use Rattle.std.specs.List.{fold}
use Rattle.std.specs.Str.{bytes_eq}
use Rattle.text.specs.Room.{in_room}

-- "Each name is kept as 16 bytes, padded with zeros"
abbrev pub name_bytes : ℕ
name_bytes = 16

-- 64 predicates and 64 functions
abbrev pub max_names : ℕ
max_names = 128

abbrev pub padded : List ℕ → List ℕ
padded name = in_room name_bytes name

-- the bytes of name number i
abbrev pub entry : List ℕ → ℕ → List ℕ
entry names i = take name_bytes (drop (i * name_bytes) names)

-- whether two lists are the same
abbrev pub same : List ℕ → List ℕ → Bool
same xs ys = bytes_eq xs ys

-- the number of the first that is the key of n names from number i on, or i + n where none is
abbrev pub seek : List ℕ → List ℕ → ℕ → ℕ → ℕ
seek names key i zero = i
seek names key i (suc n) = cond (same (entry names i) key) i (seek names key (suc i) n)

-- A number made of a name's bytes: names whose numbers differ are not the same, which spares comparing them.
abbrev pub hash_below : ℕ
hash_below = 65536

abbrev pub hash_of : List ℕ → ℕ
hash_of key = fold (λ h b. (h * 31 + b) % hash_below) 0 key

-- the hashes of the names from number i on, and below number n
abbrev pub Hashed : List ℕ → List ℕ → ℕ → ℕ → Type 0
Hashed names hashes i n = (k : ℕ) → i ≤ k → k < n → get_or hashes k 0 ≡ hash_of (entry names k)
