-- `holds` meets its contract: no row that the walk along the bucket has passed has the key. The measure is the link, which falls to an earlier row.
-- Assumes nothing.
use mathlib.Core.Path.{◌≡◌}
use Prim.Native.Nat.{◌-◌}
use native.Mathlib.Omega.{arith}
use Rattle.rows.proofs.Finding.{looked_at, looked_ends, found_there}
use Rattle.rows.proofs.store.holds.Goals as goal

pub returns-then-is_at : goal.returns-then-is_at
returns-then-is_at c = let h = c.is_at.ensures.0 (rw c.if-is_at.true tt) in let m = found_there c.args.table.now c.args.n c.args.slot c.args.mask (c.loop-link.link - 1) (looked_at c.args.table.now c.args.heads.now c.args.n c.args.slot c.args.mask c.requires.store c.loop-link.link c.loop-link.invariant c.loop-link-test.true) h.0 h.1 in (λ t. m, λ m'. tt)

pub returns : goal.returns
returns c = let e : c.loop-link.link ≡ 0 = omega (arith, c.loop-link-test.false) in let w = (rw e at c.loop-link.invariant) in (λ f. absurd f, λ m. absurd (looked_ends c.args.table.now c.args.heads.now c.args.n c.args.slot c.args.mask c.requires.store c.ranges.mask.fits w m))
