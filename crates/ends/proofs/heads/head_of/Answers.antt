-- `head_of` meets its contract: the directory says where the head and the first body atom stand. Assumes nothing.
use native.Mathlib.Omega.{arith}
use Rattle.ends.proofs.HeadAtoms.{no_atom, first_in, first_atom, head_known}
use Rattle.ends.proofs.heads.head_of.Goals as goal

pub returns-then-end-first : goal.returns-then-end-first
returns-then-end-first c = (
  λ a. head_known a _ _ c.from-first.ensures c.from-end.ensures c.from-start.ensures c.from-cells.ensures (rw c.from.ensures at c.first_variables-there.ensures) (no_atom a _ _ c.from-first.ensures c.from-end.ensures c.if-end-first.true),
  c.from-start.ensures,
  c.from-cells.ensures,
)

pub body_order-requires : goal.body_order-requires
body_order-requires c = first_in c.requires _ _ c.from-first.ensures c.from-end.ensures (omega (arith, c.if-end-first.false))

pub returns : goal.returns
returns c = (
  λ a.
      head_known a _ _ c.from-first.ensures c.from-end.ensures c.from-start.ensures c.from-cells.ensures (rw c.from.ensures at c.first_variables-there.ensures)
      (first_atom a _ _ c.from-first.ensures c.from-end.ensures (omega (arith, c.if-end-first.false)) (c.body_order.ensures (first_in a _ _ c.from-first.ensures c.from-end.ensures (omega (arith, c.if-end-first.false))))),
  c.from-start.ensures,
  c.from-cells.ensures,
)
