-- `bind` meets its contract: the set that it gains is that of what the term stands for, so the test is the occurs check.
-- Assumes nothing.
use lib.Dec.{T}
use Rattle.terms.specs.Cells.{enc}
use Rattle.terms.proofs.Walks.{Union}
use Rattle.terms.proofs.Standings.{next_term}
use Rattle.terms.proofs.Bound.{parted_bound, joined_bound}
use Rattle.terms.proofs.unifier.Atoms.bind.Goals as goal

pub returns-then-has : goal.returns-then-has
returns-then-has c = let F = c.args.self.now.functions.now in let a = c.args.self.now.a.now in
    let b = c.args.self.now.b.now in let x = c.args.x in let p = c.args.place in let P = c.args.places.now in let S = c.args.sets.now in let r = c.requires in
    λ σ K.
    let n = next_term F a b p 0 K.first_short r.run in
    let g : Union (enc n.term) _ S c.set_at-gained.result = rw n.cut at c.set_at-gained.ensures in
    parted_bound F a b P S σ x p c.set_at-gained.result K r.small r.unbound_yet r.run r.is_place g
    (c.has.ensures.0 (rw c.if-has.true tt)) r.way

pub returns : goal.returns
returns c = let F = c.args.self.now.functions.now in
    let a = c.args.self.now.a.now in let b = c.args.self.now.b.now in let x = c.args.x in let p = c.args.place in let P = c.args.places.now in
    let S = c.args.sets.now in let r = c.requires in
    λ σ K.
    let n = next_term F a b p 0 K.first_short r.run in
    let g : Union (enc n.term) _ S c.set_at-gained.result = rw n.cut at c.set_at-gained.ensures in
    joined_bound F a b P S σ x p c.set_at-gained.result K r.small r.unbound_yet r.run r.is_place _ g
    (λ h. let t : T c.has.result = c.has.ensures.1 h in rw c.if-has.false at t)
    c.replace.ensures
