-- The names of a program, as they are lent, and their faults.
use Rattle.std.specs.Prelude.{ℕ, zero, suc, ◌-◌, ◌*◌, Bool, cond, ◌&&◌, List, length, eqb, ltb}
use Rattle.program.specs.Reply.{too_soon, follows, bad_name, refused, done}
use Rattle.program.specs.declared.reply.Reply.{Reply}
use Rattle.text.specs.Token.{is_name}
use Rattle.text.specs.Name.{name_bytes, padded, entry, same, seek}
use Rattle.cells.specs.TextSoFar.{Read, wrong, right}
use Rattle.written_lines.specs.Tokens.{name_in}

-- a name, and nothing but zeros behind it
abbrev pub is_entry : List ℕ → Bool
is_entry e = is_name (name_in e) && same (padded (name_in e)) e

-- the number of the first name of the kind that name i is of
abbrev pub first_of : ℕ → ℕ → ℕ
first_of predicates i = cond (ltb i predicates) 0 predicates

-- "a declared name is ill formed, or declared twice in its kind": whether name i is neither
abbrev pub is_sound : List ℕ → ℕ → ℕ → Bool
is_sound names predicates i =
    is_entry (entry names i) && eqb (seek names (entry names i) (first_of predicates i) (i - first_of predicates i)) i

-- "then 12 at the name's byte index": n names from number i on
abbrev pub each_name : List ℕ → ℕ → ℕ → ℕ → Read (List ℕ)
each_name names predicates i zero = right names
each_name names predicates i (suc n) =
    cond (is_sound names predicates i) (each_name names predicates (suc i) n) (wrong bad_name (i * name_bytes))

-- "shorter than 16 bytes a symbol is 1 at their length, longer is 7 at the first byte over, then 12 at the name's byte index"
abbrev pub names_of : List ℕ → ℕ → ℕ → Read (List ℕ)
names_of names predicates symbols =
    cond (ltb (length names) (symbols * name_bytes)) (wrong too_soon (length names))
    (cond (ltb (symbols * name_bytes) (length names)) (wrong follows (symbols * name_bytes)) (each_name names predicates 0 symbols))

-- the reply of the names alone: nothing is written
abbrev pub names_reply : Read (List ℕ) → Reply
names_reply (wrong number place) = refused number place
names_reply (right names) = done 0
