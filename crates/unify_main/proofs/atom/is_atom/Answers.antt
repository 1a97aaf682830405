-- `is_atom` meets its contract: a predicate's cell, and behind it as many terms as its arity.
use Rattle.std.proofs.Common.{arith}
use Rattle.unify_main.proofs.AtomRuns.{predicate_first, predicate_behind}
use Rattle.unify_main.proofs.atom.is_atom.Goals as goal

pub returns : goal.returns
returns c =
    let found = c.in-Some-get.ensures.lookup.3 in
    let cut = c.in-Some.ensures.cases.0 in
    let arity = rw c.from.ensures at (found.1 0) in (
      λ z. rw cut (predicate_first c.args.predicates.now c.args.functions.now c.in-Some.predicate.now c.in-Some.arguments.now
          (omega (arith, c.in-Some.ensures.cases.1, c.if-run-gt-ATOM_CELLS.false)) (omega (arith, found.0, c.from.ensures))
          (rw (c.from-2.ensures, arity) at (c.are_terms.ensures.0 z))),
      λ r. c.are_terms.ensures.1 (rw (c.from-2.ensures, arity) (predicate_behind (rw cut at r))),
    )
