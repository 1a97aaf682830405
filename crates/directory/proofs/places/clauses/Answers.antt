-- `clauses` meets its contract. The invariant: the clauses passed are written. Assumes nothing.
use native.Mathlib.Omega.{arith}
use mathlib.Core.Path.{◌≡◌, ◌∙◌}
use lib.ListN.{length, length-set}
use lib.Seq.{get_or-set_same}
use Rattle.directory.specs.Layout.{clause_first, dir_words}
use Rattle.directory.proofs.ClausesWalk.{no_clauses, next_clause, first_room, one_clause, first_set}
use Rattle.directory.proofs.places.clauses.Goals as goal

pub loop-k-init : goal.loop-k-init
loop-k-init c = let e : length c.args.dir.now ≡ dir_words = c.requires.2 in ((λ a. no_clauses _ _ _ _ _ a _ (rw length-set e) c.requires.4 (get_or-set_same c.args.dir.now clause_first 0 0 (omega arith))), rw length-set e, rw length-set e)

pub clause-at-requires : goal.clause-at-requires
clause-at-requires c = let w = c.loop-k.invariant.0 c.requires.0 in let less = c.loop-k-test.true in (next_clause _ _ _ _ _ c.requires.0 _ c.loop-k.invariant.1 _ _ _ w less, c.requires.1, c.loop-k.invariant.2, omega (arith, less, c.requires.3), first_room _ _ _ _ _ c.requires.0 _ c.loop-k.invariant.1 _ _ _ w less c.requires.3, c.requires.5)

pub loop-k-preserved : goal.loop-k-preserved
loop-k-preserved c = let less = c.loop-k-test.true in let inv = c.loop-k.invariant in ((λ a. let w = inv.0 a in one_clause _ _ _ _ _ a _ inv.1 _ _ _ w less _ _ (c.clause-at.ensures (next_clause _ _ _ _ _ a _ inv.1 _ _ _ w less))), inv.1, c.clause-at.auto.dir ∙ inv.2)

pub returns : goal.returns
returns c = λ a. let e : c.loop-k.k ≡ c.args.count = omega (arith, c.loop-k.auto.k-end, c.loop-k-test.false) in first_set _ _ _ _ _ _ _ (rw e at (c.loop-k.invariant.0 a))
