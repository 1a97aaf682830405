-- `solve_calls` meets its contract. The invariant: the call rows behind the link have their solution rows, and so have the masks in the set; the chain is
-- that of any situation that the contract speaks of. The measure is the link. Assumes nothing.
use Prim.Native.Nat.{ℕ, ◌≤◌}
use native.Mathlib.Omega.{arith}
use mathlib.Core.Path.{◌∙◌}
use Rattle.rows.proofs.AddedRows.{reached_err}
use Rattle.solving.specs.Solving.{CallsAsked}
use Rattle.solving.proofs.SolveCalls.{Turned, going_begins, going_slot, going_read, put_more, going_full, turned_there, turned_new, turned_read, going_on, going_falls, going_ends}
use Rattle.solving.proofs.solve.solve_calls.Goals as goal
use Rattle.solving.proofs.solve.solve_calls.Goals.{then-insert+in_ok-rows, else-insert}

pub loop-link-init : goal.loop-link-init
loop-link-init c = let (asked, writable, l, size) = c.requires in
    ((_, _, asked, l), size, λ since old b a. going_begins a _ _ _ b writable)

pub mask_at-own-requires : goal.mask_at-own-requires
mask_at-own-requires c = let ((since, old, asked, b), size, all) = c.loop-link.invariant in
    going_read asked _ _ _ b _ _ _ _ _ (all since old b asked) (omega (arith, c.loop-link-test.true))

pub add-requires : goal.add-requires
add-requires c = let ((since, old, asked, b), size, all) = c.loop-link.invariant in
    let g = all since old b asked in
    let writable = g.grew.writable in
    record { store = writable.store; n_le_room = (writable.within, writable.room_most, writable.room_there, going_slot asked _ _ _ b _ _ _ _ _ g) }

pub returns-in_err-rows-clause-stepped : goal.returns-in_err-rows-clause-stepped
returns-in_err-rows-clause-stepped c = let l = c.requires.2 in λ a.
    rw (reached_err _ _ c.from_residual.ensures.0)
    (going_full a _ _ _ l _ _ _ _ _ (c.loop-link.invariant.2 _ _ l a) (omega (arith, c.loop-link-test.true)) _ _ _ _ c.mask_at-own.ensures c.together-both.ensures c.insert.ensures _ _ _ (rw c.in_err-rows.was at c.add.ensures.added) c.add.auto.table (omega arith))

pub returns-in_err-rows-clause-put : goal.returns-in_err-rows-clause-put
returns-in_err-rows-clause-put c = let l = c.requires.2 in λ a.
    put_more a _ _ _ l _ _ _ _ _ (c.loop-link.invariant.2 _ _ l a) (omega (arith, c.loop-link-test.true)) _ _ _ _ c.mask_at-own.ensures c.together-both.ensures c.insert.ensures

pub before_at-link-requires : goal.before_at-link-requires
before_at-link-requires c = let turned : (since old : ℕ) (b : old ≤ c.args.n) (a : CallsAsked c.args.table.now c.args.solved.now since old c.args.newest c.args.slot c.args.mask c.args.n)
    → Turned a c.args.at.number c.args.at.room c.args.buckets.now c.loop-link.rows c.loop-link.table c.together-both.result c.if-insert.rows c.if-insert.table c.if-insert.buckets c.insert.new.set = λ since old b a. let g = c.loop-link.invariant.2 since old b a in
    elim c.if-insert.branch [
      | then-insert+in_ok-rows arm ↦ rw (arm.table-is, arm.buckets-is, arm.rows-is) (turned_new a _ _ _ b _ _ _ _ _ g (omega (arith, c.loop-link-test.true)) _ _ _ _ c.mask_at-own.ensures c.together-both.ensures c.insert.ensures _ _ _ (rw arm.in_ok-rows.was at arm.add.ensures.added) arm.add.auto.table (rw arm.in_ok-rows.was at arm.add.ensures.within))
      | else-insert arm ↦ rw (arm.table-is, arm.buckets-is, arm.rows-is) (turned_there a _ _ _ b _ _ _ _ _ g (omega (arith, c.loop-link-test.true)) _ _ _ _ c.mask_at-own.ensures c.together-both.ensures c.insert.ensures (λ t. rw arm.if-insert.false at t))
    ] in
    let ((since, old, asked, b), size, all) = c.loop-link.invariant in
    turned_read asked _ _ _ b _ _ _ _ _ (all since old b asked) (omega (arith, c.loop-link-test.true)) _ _ _ _ c.mask_at-own.ensures c.together-both.ensures c.insert.ensures _ _ _ (turned since old b asked)

pub loop-link-smaller : goal.loop-link-smaller
loop-link-smaller c = let turned : (since old : ℕ) (b : old ≤ c.args.n) (a : CallsAsked c.args.table.now c.args.solved.now since old c.args.newest c.args.slot c.args.mask c.args.n)
    → Turned a c.args.at.number c.args.at.room c.args.buckets.now c.loop-link.rows c.loop-link.table c.together-both.result c.if-insert.rows c.if-insert.table c.if-insert.buckets c.insert.new.set = λ since old b a. let g = c.loop-link.invariant.2 since old b a in
    elim c.if-insert.branch [
      | then-insert+in_ok-rows arm ↦ rw (arm.table-is, arm.buckets-is, arm.rows-is) (turned_new a _ _ _ b _ _ _ _ _ g (omega (arith, c.loop-link-test.true)) _ _ _ _ c.mask_at-own.ensures c.together-both.ensures c.insert.ensures _ _ _ (rw arm.in_ok-rows.was at arm.add.ensures.added) arm.add.auto.table (rw arm.in_ok-rows.was at arm.add.ensures.within))
      | else-insert arm ↦ rw (arm.table-is, arm.buckets-is, arm.rows-is) (turned_there a _ _ _ b _ _ _ _ _ g (omega (arith, c.loop-link-test.true)) _ _ _ _ c.mask_at-own.ensures c.together-both.ensures c.insert.ensures (λ t. rw arm.if-insert.false at t))
    ] in
    let ((since, old, asked, b), size, all) = c.loop-link.invariant in
    going_falls asked _ _ _ b _ _ _ _ _ (all since old b asked) (omega (arith, c.loop-link-test.true)) _ _ _ _ c.mask_at-own.ensures c.together-both.ensures c.insert.ensures _ _ _ (turned since old b asked) _ c.before_at-link.ensures

pub loop-link-preserved : goal.loop-link-preserved
loop-link-preserved c = let turned : (since old : ℕ) (b : old ≤ c.args.n) (a : CallsAsked c.args.table.now c.args.solved.now since old c.args.newest c.args.slot c.args.mask c.args.n)
    → Turned a c.args.at.number c.args.at.room c.args.buckets.now c.loop-link.rows c.loop-link.table c.together-both.result c.if-insert.rows c.if-insert.table c.if-insert.buckets c.insert.new.set = λ since old b a. let g = c.loop-link.invariant.2 since old b a in
    elim c.if-insert.branch [
      | then-insert+in_ok-rows arm ↦ rw (arm.table-is, arm.buckets-is, arm.rows-is) (turned_new a _ _ _ b _ _ _ _ _ g (omega (arith, c.loop-link-test.true)) _ _ _ _ c.mask_at-own.ensures c.together-both.ensures c.insert.ensures _ _ _ (rw arm.in_ok-rows.was at arm.add.ensures.added) arm.add.auto.table (rw arm.in_ok-rows.was at arm.add.ensures.within))
      | else-insert arm ↦ rw (arm.table-is, arm.buckets-is, arm.rows-is) (turned_there a _ _ _ b _ _ _ _ _ g (omega (arith, c.loop-link-test.true)) _ _ _ _ c.mask_at-own.ensures c.together-both.ensures c.insert.ensures (λ t. rw arm.if-insert.false at t))
    ] in (
      c.loop-link.invariant.0,
      c.insert.auto.set ∙ c.loop-link.invariant.1,
      λ since old b a.
          going_on a _ _ _ b _ _ _ _ _ (c.loop-link.invariant.2 since old b a) (omega (arith, c.loop-link-test.true)) _ _ _ _ c.mask_at-own.ensures c.together-both.ensures c.insert.ensures _ _ _ (turned since old b a) _ c.before_at-link.ensures,
    )

pub returns : goal.returns
returns c = let l = c.requires.2 in record {
  stepped = λ a. going_ends a _ _ _ l _ _ _ _ _ (c.loop-link.invariant.2 _ _ l a) _ (omega (arith, c.loop-link-test.false));
  put = λ a. (c.loop-link.invariant.2 _ _ l a).put;
  within = (c.loop-link.invariant.2 _ _ l c.requires.0).grew.writable.within;
}
