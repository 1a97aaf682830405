-- Wrong analysers, functions of the words and the lent table: those that the promise is to shut out. All but the first three go wrong over any other analyser.
use Rattle.std.specs.Prelude.{ℕ, zero, suc, min, List, ◌∷◌, length, replicate, get_or, drop}
use Rattle.program.specs.Limits.{row_size}
use Rattle.program.specs.Reply.{refused}
use Rattle.program.specs.declared.reply.Reply.{Reply}
use Rattle.table.specs.Table.{Promise}

-- what an analysis leaves: its reply, and the words of the lent table after it
pub record Left : Type 0 where
  pub reply : Reply
  pub table : List ℕ

-- of the words of a program, and of the words that stand in the lent table before
abbrev pub Analyser : Type 0
Analyser = List ℕ → List ℕ → Left

-- the analysis keeps the promise on these words with this table lent
abbrev pub Keeps : Analyser → List ℕ → List ℕ → Type 0
Keeps a words lent = Promise words (length lent) (a words lent).reply (a words lent).table

-- "refusing always", with any number but 0 and any place
abbrev pub refusing : (number place : List ℕ → List ℕ → ℕ) → Analyser
refusing number place words lent = record { reply = refused (suc (number words lent)) (place words lent); table = replicate (length lent) 0 }

-- "one constant table", whatever it is, and whatever the reply
abbrev pub constant : (List ℕ → List ℕ → Reply) → List ℕ → Analyser
constant reply table words lent = record { reply = reply words lent; table = table }

-- "writing nothing", whatever the reply
abbrev pub writing_nothing : (List ℕ → List ℕ → Reply) → Analyser
writing_nothing reply words lent = record { reply = reply words lent; table = lent }

-- what holds of each row that an analysis leaves, from its round on; the reply counts the rows
abbrev pub EachRow : (List ℕ → Type 0) → ℕ → List ℕ → Type 0
EachRow P zero words = Unit {0}
EachRow P (suc n) words = P words × EachRow P n (drop row_size words)

abbrev pub AllRows : (List ℕ → Type 0) → Left → Type 0
AllRows P left = EachRow P left.reply.count left.table

abbrev pub round_of : List ℕ → ℕ
round_of row = get_or row 0 0

abbrev pub mask_of : List ℕ → ℕ
mask_of row = get_or row 4 0

-- the first n rows with another round and another mask, each made of the row's words
abbrev pub changed : (round mask : List ℕ → ℕ) → ℕ → List ℕ → List ℕ
changed round mask zero words = words
changed round mask (suc n) words =
    round words ∷ get_or words 1 0 ∷ get_or words 2 0 ∷ get_or words 3 0 ∷ mask words ∷ changed round mask n (drop row_size words)

abbrev pub over : (round mask : List ℕ → ℕ) → Analyser → Analyser
over round mask a words lent =
    record { reply = (a words lent).reply; table = changed round mask (a words lent).reply.count (a words lent).table }

-- "finding all in round 1 and idling later"
abbrev pub all_in_round_one : Analyser → Analyser
all_in_round_one = over (λ row. min (round_of row) 1) mask_of

-- "an invented .. round": made up from the row's kind, a, b and mask
abbrev pub made_up : (ℕ → ℕ → ℕ → ℕ → ℕ) → List ℕ → ℕ
made_up f row = f (get_or row 1 0) (get_or row 2 0) (get_or row 3 0) (get_or row 4 0)

abbrev pub invented_round : (ℕ → ℕ → ℕ → ℕ → ℕ) → Analyser → Analyser
invented_round f = over (made_up f) mask_of

-- "an invented row count": made up from the room
abbrev pub invented_count : (ℕ → ℕ) → Analyser → Analyser
invented_count f a words lent =
    record {
      reply = record { number = (a words lent).reply.number; place = (a words lent).reply.place; count = f (length lent) };
      table = (a words lent).table;
    }

-- "marking everything any"
abbrev pub everything_any : Analyser → Analyser
everything_any = over round_of (λ row. 0)
