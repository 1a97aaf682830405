-- `concerned` meets its contract: where the slot stands says the row's kind. Assumes nothing.
use native.Mathlib.Omega.{arith}
use mathlib.Core.Path.{refl}
use Rattle.terms.proofs.Masks.{has_one}
use Rattle.concerns.proofs.ActiveClauses.{shifted_bit, shape_declared, call_shape, solution_shape, call_concerns, solution_concerns, cont_concerns, cont_belongs, cont_few}
use Rattle.concerns.proofs.active.concerned.Goals as goal

pub predicate_of-requires : goal.predicate_of-requires
predicate_of-requires c = let (l, e) = c.in-Call.ensures in rw e (call_shape c.requires.0 _ c.slot_at.ensures l)

pub offset_bounds-index-predicate_of : goal.offset_bounds-index-predicate_of
offset_bounds-index-predicate_of c = let (l, e) = c.in-Call.ensures in
    let a = call_shape c.requires.0 _ c.slot_at.ensures l in omega (arith, (rw e at c.predicate_of.ensures) a, shape_declared a.setting a.nth_shape)

pub bounds-index-predicate_of : goal.bounds-index-predicate_of
bounds-index-predicate_of c = let (l, e) = c.in-Call.ensures in
    let a = call_shape c.requires.0 _ c.slot_at.ensures l in omega (arith, (rw e at c.predicate_of.ensures) a, shape_declared a.setting a.nth_shape, c.requires.2)

pub returns-in-Call : goal.returns-in-Call
returns-in-Call c = λ w index k h. let (l, e) = c.in-Call.ensures in
    call_concerns w _ c.slot_at.ensures c.args.index.now.headed _ (rw e at c.predicate_of.ensures) l index.heads_entered k h

pub clause_of-requires : goal.clause_of-requires
clause_of-requires c = cont_belongs c.requires.0 _ c.slot_at.ensures c.in-Cont.ensures

pub overflow_shl-result : goal.overflow_shl-result
overflow_shl-result c = (cont_few c.requires.0 _ c.slot_at.ensures c.in-Cont.ensures c.clause_of.ensures).0

pub returns-in-Cont : goal.returns-in-Cont
returns-in-Cont c = λ w index k h.
    let (a, b, e) = c.in-Cont.ensures in
    let (f, l) = cont_concerns w _ c.slot_at.ensures _ _ e (λ body. c.clause_of.ensures (record { p = w.p; setting = w.setting; body = body })) a b k h in
    rw (f, shifted_bit k l) ((has_one k k).1 refl)

pub predicate_of-requires-in-Solution : goal.predicate_of-requires-in-Solution
predicate_of-requires-in-Solution c = let (l, e) = c.in-Solution.ensures in rw e (solution_shape c.requires.0 _ c.slot_at.ensures l)

pub offset_bounds-index-predicate_of-in-Solution : goal.offset_bounds-index-predicate_of-in-Solution
offset_bounds-index-predicate_of-in-Solution c = let (l, e) = c.in-Solution.ensures in
    let a = solution_shape c.requires.0 _ c.slot_at.ensures l in omega (arith, (rw e at c.predicate_of-in-Solution.ensures) a, shape_declared a.setting a.nth_shape)

pub bounds-index-predicate_of-in-Solution : goal.bounds-index-predicate_of-in-Solution
bounds-index-predicate_of-in-Solution c = let (l, e) = c.in-Solution.ensures in
    let a = solution_shape c.requires.0 _ c.slot_at.ensures l in omega (arith, (rw e at c.predicate_of-in-Solution.ensures) a, shape_declared a.setting a.nth_shape, c.requires.3)

pub returns-in-Solution : goal.returns-in-Solution
returns-in-Solution c = λ w index k h. let (l, e) = c.in-Solution.ensures in
    solution_concerns w _ c.slot_at.ensures c.args.index.now.bodied _ (rw e at c.predicate_of-in-Solution.ensures) l index.bodies_entered k h
