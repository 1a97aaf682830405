-- `unify_term` and `unify_terms` meet their contracts: each way on keeps the store's solutions and weighs less.
-- Assumes nothing.
use Prim.Native.Nat.{◌+◌, ◌-◌}
use Rattle.std.proofs.Common.{rules, tests, true, false, eqb}
use mathlib.Core.Path.{◌≡◌, sym, ap, ◌∙◌}
use mathlib.Core.Logic.{inl, inr}
use native.Mathlib.Omega.{arith}
use Rattle.terms.specs.declared.unifier.Look.TheVariants.{Unbound, Function}
use Rattle.terms.proofs.Standings.{cell_at}
use Rattle.terms.proofs.Bound.{short_at}
use Rattle.terms.proofs.GoingOn.{first_found, second_found, follow_first, follow_first_lighter, follow_first_outcome, follow_second, follow_second_lighter, follow_second_outcome, bind_first, bind_first_outcome, bind_second, bind_second_outcome, same_outcome, differ_outcome, arguments, arguments_lighter, arguments_outcome, going_pair, going_lighter, going_parted, going_more, going_all}
use Rattle.terms.proofs.unifier.Atoms.+unify_term_unify_terms.Goals as goal

pub unify_term-look_at-requires : goal.unify_term-look_at-requires
unify_term-look_at-requires t c =
    let F = c.args.self.now.functions.now in
    let a = c.args.self.now.a.now in
    let b = c.args.self.now.b.now in
    let s = c.args.s in
    let R = c.requires in
    cell_at F a b s R.store.first_short R.first_run

pub unify_term-look_at-requires-2 : goal.unify_term-look_at-requires-2
unify_term-look_at-requires-2 t c =
    let F = c.args.self.now.functions.now in
    let a = c.args.self.now.a.now in
    let b = c.args.self.now.b.now in
    let t = c.args.t in
    let R = c.requires in
    cell_at F a b t R.store.first_short R.second_run

pub unify_term-returns-then-x-y : goal.unify_term-returns-then-x-y
unify_term-returns-then-x-y t c =
    let R = c.requires in
    let M = first_found R _ _ c.look_at.ensures c.in-Unbound-Unbound.is-0 in
    let N = second_found R _ _ c.look_at-2.ensures (c.in-Unbound-Unbound.is-1 ∙ ap Unbound (sym c.if-x-y.true)) in
    let same : eqb c.in-Unbound-Unbound.x c.in-Unbound-Unbound.y ≡ true = search (rules, tests) in
    rw same (same_outcome R _ M N)

pub unify_term-bind-requires : goal.unify_term-bind-requires
unify_term-bind-requires t c =
    let R = c.requires in
    let M = first_found R _ _ c.look_at.ensures c.in-Unbound-Unbound.is-0 in
    let N = second_found R _ _ c.look_at-2.ensures c.in-Unbound-Unbound.is-1 in
    bind_first R _ M (inr (_, N.0, N.1, λ e. c.if-x-y.false (sym e)))

pub unify_term-bind-requires-in-Unbound-Function : goal.unify_term-bind-requires-in-Unbound-Function
unify_term-bind-requires-in-Unbound-Function t c =
    let R = c.requires in
    let M = first_found R _ _ c.look_at.ensures c.in-Unbound-Function.is-0 in
    let N = second_found R _ _ c.look_at-2.ensures c.in-Unbound-Function.is-1 in
    bind_first R _ M (inl (_, _, N.0))

pub unify_term-bind-requires-in-Function-Unbound : goal.unify_term-bind-requires-in-Function-Unbound
unify_term-bind-requires-in-Function-Unbound t c =
    let R = c.requires in
    let M = first_found R _ _ c.look_at.ensures c.in-Function-Unbound.is-0 in
    let N = second_found R _ _ c.look_at-2.ensures c.in-Function-Unbound.is-1 in
    bind_second R _ N (inl (_, _, M.0))

pub unify_term-returns-then-f-g : goal.unify_term-returns-then-f-g
unify_term-returns-then-f-g t c =
    let Q = c.args.places.now in
    let S = c.args.sets.now in
    let R = c.requires in
    let M = first_found R _ _ c.look_at.ensures c.in-Function-Function.is-0 in
    let N = second_found R _ _ c.look_at-2.ensures c.in-Function-Function.is-1 in
    differ_outcome R _ _ M N c.if-f-g.true Q S

pub unify_term-bounds-self-from : goal.unify_term-bounds-self-from
unify_term-bounds-self-from t c =
    let R = c.requires in
    rw c.from.ensures (first_found R _ _ c.look_at.ensures c.in-Function-Function.is-0).1

pub unify_term-unify_terms-requires : goal.unify_term-unify_terms-requires
unify_term-unify_terms-requires t c =
    let R = c.requires in
    let M = first_found R _ _ c.look_at.ensures c.in-Function-Function.is-0 in
    let N = second_found R _ _ c.look_at-2.ensures (c.in-Function-Function.is-1 ∙ ap Function (sym c.if-f-g.false)) in
    rw (c.from-arity.ensures, c.from.ensures) (rw (← c.decreases) (omega (arith, arguments_lighter R _ M N)), arguments R _ M N)

pub unify_term-returns-in-Bound-default : goal.unify_term-returns-in-Bound-default
unify_term-returns-in-Bound-default t c =
    let R = c.requires in
    follow_first_outcome R _ (first_found R _ _ c.look_at.ensures c.in-Bound-default.is-0) c.unify_term.result c.unify_term.new.places c.unify_term.new.sets c.unify_term.ensures

pub unify_term-returns-in-Unbound-Bound : goal.unify_term-returns-in-Unbound-Bound
unify_term-returns-in-Unbound-Bound t c =
    let R = c.requires in
    follow_second_outcome R _ (second_found R _ _ c.look_at-2.ensures c.in-Unbound-Bound.is-1) c.unify_term-in-Unbound-Bound.result c.unify_term-in-Unbound-Bound.new.places c.unify_term-in-Unbound-Bound.new.sets c.unify_term-in-Unbound-Bound.ensures

pub unify_term-returns-else-x-y : goal.unify_term-returns-else-x-y
unify_term-returns-else-x-y t c =
    let R = c.requires in
    let M = first_found R _ _ c.look_at.ensures c.in-Unbound-Unbound.is-0 in
    let N = second_found R _ _ c.look_at-2.ensures c.in-Unbound-Unbound.is-1 in
    bind_first_outcome R _ M (inr (_, N.0, N.1, λ e. c.if-x-y.false (sym e))) c.bind.result c.bind.new.places c.bind.new.sets c.bind.ensures

pub unify_term-returns-in-Unbound-Function : goal.unify_term-returns-in-Unbound-Function
unify_term-returns-in-Unbound-Function t c =
    let R = c.requires in
    let M = first_found R _ _ c.look_at.ensures c.in-Unbound-Function.is-0 in
    let N = second_found R _ _ c.look_at-2.ensures c.in-Unbound-Function.is-1 in
    bind_first_outcome R _ M (inl (_, _, N.0)) c.bind-in-Unbound-Function.result c.bind-in-Unbound-Function.new.places c.bind-in-Unbound-Function.new.sets c.bind-in-Unbound-Function.ensures

pub unify_term-returns-in-Function-Bound : goal.unify_term-returns-in-Function-Bound
unify_term-returns-in-Function-Bound t c =
    let R = c.requires in
    follow_second_outcome R _ (second_found R _ _ c.look_at-2.ensures c.in-Function-Bound.is-1) c.unify_term-in-Function-Bound.result c.unify_term-in-Function-Bound.new.places c.unify_term-in-Function-Bound.new.sets c.unify_term-in-Function-Bound.ensures

pub unify_term-returns-in-Function-Unbound : goal.unify_term-returns-in-Function-Unbound
unify_term-returns-in-Function-Unbound t c =
    let R = c.requires in
    let M = first_found R _ _ c.look_at.ensures c.in-Function-Unbound.is-0 in
    let N = second_found R _ _ c.look_at-2.ensures c.in-Function-Unbound.is-1 in
    bind_second_outcome R _ N (inl (_, _, M.0)) c.bind-in-Function-Unbound.result c.bind-in-Function-Unbound.new.places c.bind-in-Function-Unbound.new.sets c.bind-in-Function-Unbound.ensures

pub unify_term-returns-else-f-g : goal.unify_term-returns-else-f-g
unify_term-returns-else-f-g t c =
    let R = c.requires in
    let M = first_found R _ _ c.look_at.ensures c.in-Function-Function.is-0 in
    let N = second_found R _ _ c.look_at-2.ensures (c.in-Function-Function.is-1 ∙ ap Function (sym c.if-f-g.false)) in
    arguments_outcome R _ M N c.unify_terms.result c.unify_terms.new.places c.unify_terms.new.sets (rw (c.from-arity.ensures, c.from.ensures) at c.unify_terms.ensures)

pub unify_term-unify_term-requires : goal.unify_term-unify_term-requires
unify_term-unify_term-requires t c =
    let R = c.requires in
    let M = first_found R _ _ c.look_at.ensures c.in-Bound-default.is-0 in
    (rw (← c.decreases) (omega (arith, follow_first_lighter R _ M)), follow_first R _ M)

pub unify_term-unify_term-requires-in-Unbound-Bound : goal.unify_term-unify_term-requires-in-Unbound-Bound
unify_term-unify_term-requires-in-Unbound-Bound t c =
    let R = c.requires in
    let M = second_found R _ _ c.look_at-2.ensures c.in-Unbound-Bound.is-1 in
    (rw (← c.decreases) (omega (arith, follow_second_lighter R _ M)), follow_second R _ M)

pub unify_term-unify_term-requires-in-Function-Bound : goal.unify_term-unify_term-requires-in-Function-Bound
unify_term-unify_term-requires-in-Function-Bound t c =
    let R = c.requires in
    let M = second_found R _ _ c.look_at-2.ensures c.in-Function-Bound.is-1 in
    (rw (← c.decreases) (omega (arith, follow_second_lighter R _ M)), follow_second R _ M)

pub unify_terms-unify_term-requires : goal.unify_terms-unify_term-requires
unify_terms-unify_term-requires t c = let G = c.loop.invariant in
    let k = c.args.n - (c.loop.counter + 1) in
    (rw (← c.decreases) (omega (arith, going_lighter G k (omega arith))), going_pair G k (omega arith))

pub unify_terms-returns-then-not-unify_term : goal.unify_terms-returns-then-not-unify_term
unify_terms-returns-then-not-unify_term t c = let k = c.args.n - (c.loop.counter + 1) in
    let apart : c.unify_term.result ≡ false = search rules in
    going_parted c.loop.invariant k (omega arith) c.unify_term.new.places c.unify_term.new.sets c.unify_term.new.places c.unify_term.new.sets
    (rw apart at c.unify_term.ensures)

pub unify_terms-after-first-requires : goal.unify_terms-after-first-requires
unify_terms-after-first-requires t c = let G = c.loop.invariant in
    let O = going_pair G (c.args.n - (c.loop.counter + 1)) (omega arith) in
    (O.first_run, O.first_place, short_at c.args.self.now.a.now c.args.self.now.b.now c.loop.first O.store.first_short O.store.second_short)

pub unify_terms-after-second-requires : goal.unify_terms-after-second-requires
unify_terms-after-second-requires t c = let G = c.loop.invariant in
    let O = going_pair G (c.args.n - (c.loop.counter + 1)) (omega arith) in
    (O.second_run, O.second_place, short_at c.args.self.now.a.now c.args.self.now.b.now c.loop.second O.store.first_short O.store.second_short)

pub unify_terms-loop-preserved : goal.unify_terms-loop-preserved
unify_terms-loop-preserved t c = let k = c.args.n - (c.loop.counter + 1) in
    let joined : c.unify_term.result ≡ true = search rules in
    rw (c.after-first.ensures, c.after-second.ensures)
    (going_more c.loop.invariant k (omega arith) c.unify_term.new.places c.unify_term.new.sets (rw joined at c.unify_term.ensures))

pub unify_terms-returns : goal.unify_terms-returns
unify_terms-returns t c = going_all c.loop.invariant (omega arith)
