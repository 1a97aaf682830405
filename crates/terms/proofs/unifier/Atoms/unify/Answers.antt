-- `unify` meets its contract: the arguments are compared from a store in which every variable stands for itself. Assumes nothing.
use Rattle.terms.proofs.Atoms.{arguments_comparable, atoms_answer}
use Rattle.terms.proofs.unifier.Atoms.unify.Goals as goal

pub unify_terms-requires : goal.unify_terms-requires
unify_terms-requires c = let P = c.args.predicates.now in
    let F = c.args.self.now.functions.now in let a = c.args.self.now.a.now in let b = c.args.self.now.b.now in let w = c.requires in
    rw (c.from-arity.ensures, c.from.ensures)
    (arguments_comparable P F a b w.first w.second w.first_run w.second_run w.first_atom w.second_atom_law
    c.if-predicate-self.false)

pub returns : goal.returns
returns c = let P = c.args.predicates.now in let F = c.args.self.now.functions.now in let a = c.args.self.now.a.now in let b = c.args.self.now.b.now in let w = c.requires in
    λ A B ea eb kA kB. atoms_answer P F a b A B ea eb kA kB c.if-predicate-self.false c.unify_terms.result
    c.unify_terms.new.places c.unify_terms.new.sets
    (rw (c.from-arity.ensures, c.from.ensures) at c.unify_terms.ensures)
