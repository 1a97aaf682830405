-- `take_kept` meets its contract: the words passed are without what is kept. Assumes nothing.
use Rattle.std.proofs.Common.{arith, refl, ◌≡◌, ◌+◌, ◌*◌, ◌<◌}
use lib.Dec.{lt→ltb}
use Rattle.rows.proofs.KeptWords.{part_length, part_word, without_one, without_all, without_told}
use Rattle.rows.proofs.keptset.take_kept.Goals as goal

pub loop-i-preserved : goal.loop-i-preserved
loop-i-preserved c = let a = c.args in
    let first = a.size * a.k in
    let less : c.loop-i.i < a.size = omega (arith, part_length a.kept.now first a.size c.requires.1 (first + a.size) refl) in
    rw (part_word a.kept.now first a.size c.requires.1 (first + a.size) refl c.loop-i.i less) (without_one a.kept.now first c.loop-i.i _ _ _ (omega arith) c.loop-i.invariant)

pub returns : goal.returns
returns c = let a = c.args in
    let first = a.size * a.k in
    let e : c.loop-i.i ≡ a.size = omega (arith, part_length a.kept.now first a.size c.requires.1 (first + a.size) refl) in (
      rw e at (without_all _ _ c.loop-i.i _ _ _ c.loop-i.invariant),
      λ q h. lt→ltb _ _ (without_told _ _ c.loop-i.i _ _ _ c.loop-i.invariant q (omega (arith, h.0)) h.1),
    )
