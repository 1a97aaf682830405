-- `written_lines::atoms::put_arguments` meets its contract. The loop's invariant: the cells so far are written, and so many terms are left. Assumes nothing.
use Prim.Native.Nat.{ℕ}
use mathlib.Core.Path.{subst}
use mathlib.Core.List.{List, map}
use native.Mathlib.Omega.{arith}
use native.Mathlib.Numerals.{add-one}
use lib.ListN.{length}
use Rattle.terms.specs.Cells.{encs}
use Rattle.text.specs.Put.{Put}
use Rattle.text.proofs.Puts.{put_append}
use Rattle.written_lines.specs.Tokens.{argument_token, behind_tabs}
use Rattle.written_lines.proofs.LineTexts.{tabs_more}
use Rattle.written_lines.proofs.CellWalk.{left_next, left_most, left_none, left_rest}
use Rattle.written_lines.proofs.atoms.put_arguments.Goals as goal

pub bounds-cells-at : goal.bounds-cells-at
bounds-cells-at c = (left_next _ _ _ _ _ _ (c.loop-left.invariant c.requires).0 c.loop-left-test.true).inside

pub put_argument-end-requires : goal.put_argument-end-requires
put_argument-end-requires c = (left_next _ _ _ _ _ _ (c.loop-left.invariant c.requires).0 c.loop-left-test.true).declared

pub arity_of-requires : goal.arity_of-requires
arity_of-requires c = (left_next _ _ _ _ _ _ (c.loop-left.invariant c.requires).0 c.loop-left-test.true).declared

pub overflow_add-left : goal.overflow_add-left
overflow_add-left c = let n = left_next _ _ _ _ _ _ (c.loop-left.invariant c.requires).0 c.loop-left-test.true in
    omega (arith, left_most _ _ _ _ _ _ (c.loop-left.invariant c.requires).0, c.arity_of.ensures.1)

pub loop-left-smaller : goal.loop-left-smaller
loop-left-smaller c = let n = left_next _ _ _ _ _ _ (c.loop-left.invariant c.requires).0 c.loop-left-test.true in
    omega (arith, n.inside)

pub loop-left-preserved : goal.loop-left-preserved
loop-left-preserved c = let s = c.args in
    λ a.
    let n = left_next _ _ _ _ _ _ (c.loop-left.invariant a).0 c.loop-left-test.true in
    let token : ℕ → List ℕ = argument_token s.symbols.now.names.now (length s.symbols.now.predicates.now) s.modes.now in (
      rw c.arity_of.ensures.0 n.on,
      rw add-one
          (subst (λ (t : List ℕ). Put t s.out.now c.put_argument-end.new.out s.from c.put_argument-end.result)
          (tabs_more token (encs a.terms) c.loop-left.at n.of_all)
          (put_append (c.loop-left.invariant a).1 (rw n.same c.put_argument-end.ensures))),
    )

pub returns : goal.returns
returns c = let s = c.args in
    λ a.
    let i = c.loop-left.invariant a in
    record {
      to_come = left_rest _ _ _ _ _ _ i.0 c.loop-left-test.false;
      within = i.0.within;
      put =
          subst (λ (cs : List ℕ). Put (behind_tabs (map (argument_token s.symbols.now.names.now (length s.symbols.now.predicates.now) s.modes.now) cs)) s.out.now c.loop-left.out s.from c.loop-left.end)
          (left_none _ _ _ _ _ _ i.0 c.loop-left-test.false) i.1;
    }
