-- Replies: "A reply is a number, a place, and a count of what was written". The numbers of document 01's table, by name.
use Rattle.std.specs.Prelude.{ℕ, Result, Ok, Err, ⊤}
use Rattle.program.specs.declared.reply.Reply.{Reply}
use Rattle.program.specs.declared.reply.Refusal.{Refusal}
use Rattle.program.specs.declared.reply.Refusal.TheVariants.{TooSoon, OutOfRange, Undeclared, BadVariable, LongAtom, BadGoal, Follows, TooLong, NoRoom, IllFormed, BadName, BothModes}
use Rattle.program.specs.declared.reply.Fault.{Fault}

-- "Accepted is number 0 with place 0"
abbrev pub accepted : ℕ
accepted = 0

-- "the input, or a text line's atom, ends too soon"
abbrev pub too_soon : ℕ
too_soon = 1

-- "a count or arity is out of range, a 65th declaration or clause, a 17th body atom, no `pred`"
abbrev pub out_of_range : ℕ
out_of_range = 2

-- "the symbol is not declared, or an atom starts with no predicate"
abbrev pub undeclared : ℕ
undeclared = 3

-- "a variable is above 15 or skips a number"
abbrev pub bad_variable : ℕ
bad_variable = 4

-- "an atom reaches a 33rd cell"
abbrev pub long_atom : ℕ
long_atom = 5

-- "k is wrong, or a mode is neither 0 nor 1"
abbrev pub bad_goal : ℕ
bad_goal = 6

-- "something follows the goal"
abbrev pub follows : ℕ
follows = 7

-- "over 2,048 words, or over 40,960 bytes"
abbrev pub too_long : ℕ
too_long = 8

-- "the result exceeds the room"
abbrev pub no_room : ℕ
no_room = 9

-- "10 is withdrawn, its number unused"
abbrev pub withdrawn : ℕ
withdrawn = 10

-- "the text's line or token has a wrong form"
abbrev pub ill_formed : ℕ
ill_formed = 11

-- "a declared name is ill formed, or declared twice in its kind"
abbrev pub bad_name : ℕ
bad_name = 12

-- "a query variable is both `V` and `G`"
abbrev pub both_modes : ℕ
both_modes = 13

-- "a count of what was written (..; 0 when refused)"
abbrev pub refused : ℕ → ℕ → Reply
refused number place = record { number = number; place = place; count = 0 }

-- "Accepted is number 0 with place 0": how much was written is all there is to say
abbrev pub done : ℕ → Reply
done count = record { number = accepted; place = 0; count = count }

-- the number of a refusal
abbrev pub number_of : Refusal → ℕ
number_of TooSoon = too_soon
number_of OutOfRange = out_of_range
number_of Undeclared = undeclared
number_of BadVariable = bad_variable
number_of LongAtom = long_atom
number_of BadGoal = bad_goal
number_of Follows = follows
number_of TooLong = too_long
number_of NoRoom = no_room
number_of IllFormed = ill_formed
number_of BadName = bad_name
number_of BothModes = both_modes

-- what an input came to, as a reply: how much was written, or the fault
abbrev pub replied : Result ℕ Fault → Reply
replied (Ok count) = done count
replied (Err fault) = refused (number_of fault.refusal) fault.place

-- the same of an input of which nothing is written
abbrev pub scanned : Result ⊤ Fault → Reply
scanned (Ok read) = done 0
scanned (Err fault) = refused (number_of fault.refusal) fault.place
