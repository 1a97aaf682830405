-- The kinds of rows of a table, and the word that each is written as.
use Rattle.std.specs.Prelude.{ℕ}
use Rattle.program.specs.declared.kind.Kind.{Kind}
use Rattle.program.specs.declared.kind.Kind.TheVariants.{Call, Cont, Solution}

-- "kind (1 call, 2 cont, 3 solution)"
abbrev pub word_of : Kind → ℕ
word_of Call = 1
word_of Cont = 2
word_of Solution = 3
