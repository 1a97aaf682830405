-- `write_of`: the faults of a program and its names, or its text; and what `write` hands back of it.
use Rattle.std.specs.Prelude.{ℕ, ◌+◌, ◌≡◌, cond, List, [], ◌++◌, length, ltb}
use Rattle.terms.specs.Cells.{enc}
use Rattle.program.specs.Program.{Program}
use Rattle.program.specs.Within.{after, modes_of}
use Rattle.program.specs.Faults.{Found, fault, sound, faults}
use Rattle.program.specs.Reply.{no_room, refused, done}
use Rattle.program.specs.declared.reply.Reply.{Reply}
use Rattle.text.specs.Room.{in_room}
use Rattle.text_lines.specs.Keyword.{pred, func, query}
use Rattle.cells.specs.TextSoFar.{Read, wrong, right, next}
use Rattle.written_lines.specs.Tokens.{atom_tokens, line}
use Rattle.written_lines.specs.Lines.{declarations, clause_lines}
use Rattle.writer.specs.Names.{names_of}

-- "First the `pred` lines (name, arity), then `func` lines, then `clause` lines, then one `query` line, last."
abbrev pub text_of : Program → List ℕ → List ℕ
text_of p names =
    declarations pred names 0 p.predicates
    ++ (declarations func names (length p.predicates) p.functions
    ++ (clause_lines names (length p.predicates) p.clauses
    ++ line query (atom_tokens names (length p.predicates) (modes_of (after 0 p.goal) p.grounded) (enc p.goal))))

abbrev pub written : List ℕ → Found Program → Read (List ℕ)
written names (fault number place) = wrong number place
written names (sound p) =
    next (names_of names (length p.predicates) (length p.predicates + length p.functions)) (λ ns. right (text_of p ns))

-- "After all faults in the words, writer and lister check the names"
unfoldable pub write_of : List ℕ → List ℕ → Read (List ℕ)
write_of words names = written names (faults words)

-- "then room (9)"
abbrev pub room_for : ℕ → List ℕ → Read (List ℕ)
room_for room text = cond (ltb room (length text)) (wrong no_room room) (right text)

abbrev pub answer_of : List ℕ → List ℕ → ℕ → Read (List ℕ)
answer_of words names room = next (write_of words names) (room_for room)

-- "a count of what was written (.. writer and lister: bytes; 0 when refused)"
abbrev pub reply_of : Read (List ℕ) → Reply
reply_of (wrong number place) = refused number place
reply_of (right text) = done (length text)

-- "lent output past what was written is 0. Every refusal zeroes all lent output."
abbrev pub text_in : ℕ → Read (List ℕ) → List ℕ
text_in room (wrong number place) = in_room room []
text_in room (right text) = in_room room text

-- the promise of `write`: of words, names and the room, the reply and the text that is left in it
abbrev pub Writes : List ℕ → List ℕ → ℕ → Reply → List ℕ → Type 0
Writes words names room reply left = (reply ≡ reply_of (answer_of words names room)) × (left ≡ text_in room (answer_of words names room))
