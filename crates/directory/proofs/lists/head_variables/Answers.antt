-- `head_variables` meets its contract: a clause's head stands where the directory says. Assumes nothing.
use native.Mathlib.Omega.{arith}
use Rattle.directory.specs.Said.{said}
use Rattle.directory.proofs.AcceptedWords.{said_within}
use Rattle.directory.proofs.PlacedLaws.{head_at}
use Rattle.program.proofs.Nths.{below_nth}
use Rattle.directory.proofs.lists.head_variables.Goals as goal

pub overflow_add-k : goal.overflow_add-k
overflow_add-k c = omega (arith, (said_within _ c.requires.0).clauses_most, c.requires.2, c.requires.1.size)

pub offset_bounds-program-k : goal.offset_bounds-program-k
offset_bounds-program-k c = omega (arith, (said_within _ c.requires.0).clauses_most, c.requires.2, c.requires.1.size)

pub overflow_add-k-2 : goal.overflow_add-k-2
overflow_add-k-2 c = omega (arith, (said_within _ c.requires.0).clauses_most, c.requires.2, c.requires.1.size)

pub offset_bounds-program-k-2 : goal.offset_bounds-program-k-2
offset_bounds-program-k-2 c = omega (arith, (said_within _ c.requires.0).clauses_most, c.requires.2, c.requires.1.size)

pub bounds-program-k : goal.bounds-program-k
bounds-program-k c = omega (arith, (said_within _ c.requires.0).clauses_most, c.requires.2, c.requires.1.size)

pub bounds-program-k-2 : goal.bounds-program-k-2
bounds-program-k-2 c = omega (arith, (said_within _ c.requires.0).clauses_most, c.requires.2, c.requires.1.size)

pub variables-requires : goal.variables-requires
variables-requires c = let W = c.args.program.now.words.now in rw (c.from.ensures, c.from-2.ensures) (head_at W c.requires.0 _ c.requires.1 (below_nth (said W).clauses c.args.k c.requires.2).1)

pub returns : goal.returns
returns c = let W = c.args.program.now.words.now in λ a q. (rw (c.from.ensures, c.from-2.ensures) at c.variables.ensures) (head_at W c.requires.0 _ c.requires.1 q)
