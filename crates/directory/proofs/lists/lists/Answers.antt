-- `lists` meets its contract. The invariant: the lists of the clauses passed are made. Assumes nothing.
use Prim.Native.Nat.{◌<◌}
use native.Mathlib.Omega.{arith}
use mathlib.Core.Path.{◌≡◌}
use lib.ListN.{length}
use Rattle.program.proofs.Nths.{below_nth}
use Rattle.directory.specs.Said.{said}
use Rattle.directory.proofs.ListWalk.{later_own, later_placed, lists_more}
use Rattle.directory.proofs.lists.lists.Goals as goal

pub earlier-requires : goal.earlier-requires
earlier-requires c = let W = c.args.words.now in let inv = c.loop-k.invariant in
    let less : c.loop-k.k < length (said W).clauses = omega (arith, inv.0, c.loop-k-test.true) in
    let d = below_nth (said W).clauses c.loop-k.k less in
    (c.requires.0, later_placed W c.requires.0 c.loop-k.k d.0 _ _ 0 (c.later.ensures d.0 d.1) inv.1, less, λ e q. later_own _ _ _ _ _ (c.later.ensures e q))

pub loop-k-preserved : goal.loop-k-preserved
loop-k-preserved c = let W = c.args.words.now in let inv = c.loop-k.invariant in let k = c.loop-k.k in
    let less : k < length (said W).clauses = omega (arith, inv.0, c.loop-k-test.true) in
    let d = below_nth (said W).clauses k less in
    let l = c.later.ensures d.0 d.1 in
    let h = c.earlier.ensures d.0 d.1 in
    (inv.0, later_placed W c.requires.0 k d.0 _ _ _ h.rest (later_placed W c.requires.0 k d.0 _ _ 0 l inv.1), lists_more (said W) k d.0 d.1 _ _ _ _ inv.2 l h)

pub returns : goal.returns
returns c = let e : c.loop-k.k ≡ length (said c.args.words.now).clauses = omega (arith, c.loop-k.invariant.0, c.loop-k.auto.k-end, c.loop-k-test.false) in rw e at c.loop-k.invariant.2
