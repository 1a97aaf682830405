-- `unpack_row` meets its contract: where the slot stands says the row's kind. Assumes nothing.
use Prim.Native.Nat.{◌-◌}
use native.Mathlib.Omega.{arith}
use mathlib.Core.Path.{◌≡◌, ◌∙◌}
use Rattle.concerns.proofs.BodyClauses.{place_left}
use Rattle.concerns.proofs.ActiveClauses.{cont_belongs, cont_few}
use Rattle.analysis.proofs.Unpacking.{as_call, as_cont, as_solution}
use Rattle.analysis.proofs.unpack.unpack_row.Goals as goal

pub returns-in-Call : goal.returns-in-Call
returns-in-Call c = λ w. let (l, e) = c.in-Call.ensures in
    c.write.ensures ∙ rw (c.narrow.ensures, e) (as_call w.setting c.args.table.now c.args.r w.row w.regular _ _ (c.slot_at-slot.ensures ∙ w.slot) (c.mask_at-mask.ensures ∙ w.its_mask) l)

pub clause_of-k-requires : goal.clause_of-k-requires
clause_of-k-requires c = cont_belongs c.requires.0 _ c.slot_at-slot.ensures c.in-Cont.ensures

pub overflow_add-k : goal.overflow_add-k
overflow_add-k c = let few = cont_few c.requires.0 _ c.slot_at-slot.ensures c.in-Cont.ensures c.clause_of-k.ensures in omega (arith, few.0, few.1)

pub offset_bounds-program-k : goal.offset_bounds-program-k
offset_bounds-program-k c = let few = cont_few c.requires.0 _ c.slot_at-slot.ensures c.in-Cont.ensures c.clause_of-k.ensures in omega (arith, few.0, few.1)

pub bounds-program-k : goal.bounds-program-k
bounds-program-k c = let few = cont_few c.requires.0 _ c.slot_at-slot.ensures c.in-Cont.ensures c.clause_of-k.ensures in omega (arith, few.0, few.1)

pub overflow_sub-place : goal.overflow_sub-place
overflow_sub-place c = rw c.from.ensures (cont_few c.requires.0 _ c.slot_at-slot.ensures c.in-Cont.ensures c.clause_of-k.ensures).2

pub overflow_add-k-in-Cont : goal.overflow_add-k-in-Cont
overflow_add-k-in-Cont c = let few = cont_few c.requires.0 _ c.slot_at-slot.ensures c.in-Cont.ensures c.clause_of-k.ensures in omega (arith, few.0, few.1)

pub narrow-requires-in-Cont : goal.narrow-requires-in-Cont
narrow-requires-in-Cont c = let few = cont_few c.requires.0 _ c.slot_at-slot.ensures c.in-Cont.ensures c.clause_of-k.ensures in omega (arith, few.0, few.1)

pub returns-in-Cont : goal.returns-in-Cont
returns-in-Cont c = λ w. let (a, b, e) = c.in-Cont.ensures in
    c.write-in-Cont.ensures ∙ rw (c.narrow-in-Cont.ensures, c.narrow-in-Cont-2.ensures)
    (as_cont w.setting c.args.table.now c.args.r w.row w.regular _ _ c.in-Cont.j c.clause_of-k.result (c.in-Cont.j - c.from.result) (c.slot_at-slot.ensures ∙ w.slot) (c.mask_at-mask.ensures ∙ w.its_mask) a b e
    (λ body. let k : c.clause_of-k.result ≡ body.k = c.clause_of-k.ensures (record { p = w.p; setting = w.setting; body = body }) in (k, rw (c.from.ensures, k) (place_left w.setting _ body))))

pub returns-in-Solution : goal.returns-in-Solution
returns-in-Solution c = λ w. let (l, e) = c.in-Solution.ensures in
    c.write-in-Solution.ensures ∙ rw (c.narrow-in-Solution.ensures, e) (as_solution w.setting c.args.table.now c.args.r w.row w.regular _ _ (c.slot_at-slot.ensures ∙ w.slot) (c.mask_at-mask.ensures ∙ w.its_mask) l)
