-- What was read of a text: so far, by a line, and all of it.
use Rattle.std.specs.Prelude.{ℕ, suc, ◌+◌, Result, Ok, Err, List, [], ◌∷◌, ◌++◌, get_or, set, drop}
use Rattle.program.specs.Reply.{number_of}
use Rattle.program.specs.declared.reply.Fault.{Fault}
use Rattle.cells.specs.Symbols.{Symbols}

-- a part of the text: a fault's number and place, or what was read
pub data Read (A : Type 0) : Type 0 where
  wrong : ℕ → ℕ → Read A
  right : A → Read A

-- what the code's answer for a part says
abbrev pub reading_of : {A : Type 0} → Result A Fault → Read A
reading_of (Err fault) = wrong (number_of fault.refusal) fault.place
reading_of (Ok a) = right a

-- one part, and then what follows it; the first fault decides
abbrev pub next : {A B : Type 0} → Read A → (A → Read B) → Read B
next (wrong number place) f = wrong number place
next (right a) f = f a

-- "First the `pred` lines (name, arity), then `func` lines (name, arity), then `clause` lines": the sections before the query, by number
abbrev pub pred_section : ℕ
pred_section = 0

abbrev pub func_section : ℕ
func_section = 1

abbrev pub clause_section : ℕ
clause_section = 2

pub record TextSoFar : Type 0 where
  -- how many lines each section has
  pub lines : List ℕ
  -- "Each name is kept as 16 bytes, padded with zeros, predicates first."
  pub names : List ℕ
  -- what the lines say, section behind section: the arities, and then the clauses
  pub words : List ℕ

abbrev pub nothing : TextSoFar
nothing = record { lines = 0 ∷ 0 ∷ 0 ∷ []; names = []; words = [] }

abbrev pub count : TextSoFar → ℕ → ℕ
count t section = get_or t.lines section 0

abbrev pub total : List ℕ → ℕ
total [] = 0
total (n ∷ []) = n
total (n ∷ m ∷ ns) = n + total (m ∷ ns)

-- how many lines stand behind a section
abbrev pub later : List ℕ → ℕ → ℕ
later lines section = total (drop (suc section) lines)

-- one line more in a section
abbrev pub one_more : List ℕ → ℕ → List ℕ
one_more lines section = set lines section (get_or lines section 0 + 1)

-- a line more of a section: the names that there are then, and the words that it says
abbrev pub with_line : TextSoFar → ℕ → List ℕ → List ℕ → TextSoFar
with_line t section names words =
    record { lines = one_more t.lines section; names = names; words = t.words ++ words }

-- the symbols that were declared so far
abbrev pub symbols_of : TextSoFar → Symbols
symbols_of t = record { predicates = count t pred_section; functions = count t func_section; names = t.names; arities = t.words }

-- an encoded program and its names
pub record Scenario : Type 0 where
  pub words : List ℕ
  pub names : List ℕ

-- what a line comes to: more of the text follows, or the query has been read
pub data Line : Type 0 where
  more : TextSoFar → Line
  last : Scenario → Line
