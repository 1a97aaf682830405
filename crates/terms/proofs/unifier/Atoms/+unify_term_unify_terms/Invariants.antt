-- The measures of `unify_term` and `unify_terms`: what the terms that are left weigh. The invariant: the outcome of the terms left is that of all.
use Rattle.std.proofs.Common.{◌+◌, ◌-◌, ◌*◌}
use Rattle.terms.proofs.GoingOn.{load, Going}
use Rattle.terms.proofs.unifier.Atoms.+unify_term_unify_terms.Given as goal

abbrev pub decreases-unify_term : goal.decreases-unify_term
decreases-unify_term l = 2 * load l.self.now.functions.now l.self.now.a.now l.self.now.b.now l.places.now l.s l.t 1

abbrev pub decreases-unify_terms : goal.decreases-unify_terms
decreases-unify_terms l = 2 * load l.self.now.functions.now l.self.now.a.now l.self.now.b.now l.places.now l.s l.t l.n + 1

abbrev pub invariant-unify_terms-loop : goal.invariant-unify_terms-loop
invariant-unify_terms-loop l =
    Going l.self.functions.now l.self.a.now l.self.b.now l.initial.places l.initial.sets l.s l.t l.n l.places l.sets l.first l.second (l.n - l.counter)
