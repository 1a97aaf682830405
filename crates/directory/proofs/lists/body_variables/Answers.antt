-- `body_variables` meets its contract: a body atom stands where the directory says. Assumes nothing.
use native.Mathlib.Omega.{arith}
use Rattle.program.specs.Program.{bodies}
use Rattle.directory.specs.Said.{said}
use Rattle.directory.proofs.PlacedLaws.{bodies_at_most, body_at}
use Rattle.program.proofs.Nths.{below_nth}
use Rattle.directory.proofs.lists.body_variables.Goals as goal

pub overflow_add-j : goal.overflow_add-j
overflow_add-j c = omega (arith, bodies_at_most _ c.requires.0, c.requires.2, c.requires.1.size)

pub offset_bounds-program-j : goal.offset_bounds-program-j
offset_bounds-program-j c = omega (arith, bodies_at_most _ c.requires.0, c.requires.2, c.requires.1.size)

pub overflow_add-j-2 : goal.overflow_add-j-2
overflow_add-j-2 c = omega (arith, bodies_at_most _ c.requires.0, c.requires.2, c.requires.1.size)

pub offset_bounds-program-j-2 : goal.offset_bounds-program-j-2
offset_bounds-program-j-2 c = omega (arith, bodies_at_most _ c.requires.0, c.requires.2, c.requires.1.size)

pub bounds-program-j : goal.bounds-program-j
bounds-program-j c = omega (arith, bodies_at_most _ c.requires.0, c.requires.2, c.requires.1.size)

pub bounds-program-j-2 : goal.bounds-program-j-2
bounds-program-j-2 c = omega (arith, bodies_at_most _ c.requires.0, c.requires.2, c.requires.1.size)

pub variables-requires : goal.variables-requires
variables-requires c = let W = c.args.program.now.words.now in rw (c.from.ensures, c.from-2.ensures) (body_at W c.requires.0 _ c.requires.1 (below_nth (bodies (said W).clauses) c.args.j c.requires.2).1)

pub returns : goal.returns
returns c = let W = c.args.program.now.words.now in λ a q. (rw (c.from.ensures, c.from-2.ensures) at c.variables.ensures) (body_at W c.requires.0 _ c.requires.1 q)
