-- `earlier` meets its contract. The invariant: the places before j have their lists, and the mask the variables before j. Assumes nothing.
use Prim.Native.Nat.{◌+◌, ◌-◌, ◌<◌}
use native.Mathlib.Omega.{arith}
use mathlib.Core.Path.{◌≡◌, refl, ◌∙◌}
use lib.ListN.{length}
use Rattle.directory.specs.Layout.{body_list}
use Rattle.directory.specs.Said.{said}
use Rattle.directory.specs.Lists.{first_of}
use Rattle.directory.proofs.AcceptedWords.{said_within}
use Rattle.directory.proofs.BodyNumbers.{first_next, first_within}
use Rattle.directory.proofs.PlacedLaws.{bodies_at_most, placed_set, first_is, first_next_is}
use Rattle.directory.proofs.ListWalk.{head_alone, listed_step, before_step}
use Rattle.directory.proofs.lists.earlier.Goals as goal

pub bounds-dir-k : goal.bounds-dir-k
bounds-dir-k c = omega (arith, c.requires.2, (said_within _ c.requires.0).clauses_most, c.requires.1.size)

pub bounds-dir-next : goal.bounds-dir-next
bounds-dir-next c = omega (arith, c.requires.2, (said_within _ c.requires.0).clauses_most, c.requires.1.size)

pub loop-j-init : goal.loop-j-init
loop-j-init c = let W = c.args.words.now in let a = c.requires.0 in let k = c.args.k in
    let first = c.from-first.result in
    let end = c.from-end.result in
    let e : first ≡ first_of (said W) k = c.from-first.ensures ∙ first_is W a _ c.requires.1 k c.requires.2 in
    let e' : end ≡ first_of (said W) (k + 1) = c.from-end.ensures ∙ first_next_is W a _ c.requires.1 k c.requires.2 in
    let z : first - first ≡ 0 = omega arith in (
      e,
      omega (arith, first_within (said W) (k + 1) (omega (arith, c.requires.2))),
      c.requires.1,
      λ d q. (
        omega (arith, first_next (said W) q),
        rw z (record { rest = c.requires.3 d q; listed = λ y l. absurd (omega arith) }),
        rw z (head_alone d.head _ c.head_variables-mask.result refl (c.head_variables-mask.ensures d q)),
      ),
    )

pub bounds-dir-j : goal.bounds-dir-j
bounds-dir-j c = omega (arith, c.loop-j.invariant.1, c.loop-j.invariant.2.size, c.loop-j-test.true, bodies_at_most _ c.requires.0)

pub bounds-dir-j-in-loop-j : goal.bounds-dir-j-in-loop-j
bounds-dir-j-in-loop-j c = omega (arith, c.loop-j.invariant.1, c.loop-j.invariant.2.size, c.loop-j-test.true, bodies_at_most _ c.requires.0)

pub body_variables-mask-requires : goal.body_variables-mask-requires
body_variables-mask-requires c = (c.requires.0, placed_set _ c.requires.0 _ c.loop-j.invariant.2 _ _ (omega arith), omega (arith, c.loop-j.invariant.1, c.loop-j-test.true))

pub loop-j-preserved : goal.loop-j-preserved
loop-j-preserved c = let W = c.args.words.now in let inv = c.loop-j.invariant in let k = c.args.k in let D = c.loop-j.dir in
    let first = c.from-first.result in
    let j = c.loop-j.j in
    let i = j - first in
    let less = c.loop-j-test.true in
    let s : j + 1 - first ≡ i + 1 = omega (arith, c.loop-j.auto.j) in (
      inv.0,
      inv.1,
      placed_set W c.requires.0 D inv.2 _ _ (omega arith),
      λ d q.
          let w = inv.3 d q in
          let e : j ≡ first_of (said W) k + i = omega (arith, inv.0, c.loop-j.auto.j) in
          let few : i < length d.body = omega (arith, w.0, less, c.loop-j.auto.j) in
          let room : body_list + j < length D = omega (arith, inv.1, inv.2.size, less, bodies_at_most _ c.requires.0) in (
            w.0,
            rw s (listed_step (said W) k d q _ D j i e few room c.loop-j.mask w.1 w.2),
            rw s (before_step (said W) k d q _ D j i e few room c.loop-j.mask w.1 w.2 c.body_variables-mask.result c.body_variables-mask.ensures),
          ),
    )
