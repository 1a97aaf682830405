-- `later` meets its contract. The invariant: the places from j on have their variables, and the mask those from j on. Assumes nothing.
use Prim.Native.Nat.{suc, ◌+◌, ◌-◌, ◌<◌}
use native.Mathlib.Omega.{arith}
use mathlib.Core.Path.{◌≡◌, ◌∙◌}
use lib.ListN.{length, drop}
use lib.Seq.{drop-length}
use Rattle.program.proofs.Nths.{below_nth}
use Rattle.directory.specs.Layout.{body_list}
use Rattle.directory.specs.Said.{said}
use Rattle.directory.specs.Lists.{first_of}
use Rattle.directory.proofs.AcceptedWords.{said_within}
use Rattle.directory.proofs.BodyNumbers.{first_next, first_within}
use Rattle.directory.proofs.PlacedLaws.{bodies_at_most, placed_set, first_is, first_next_is}
use Rattle.directory.proofs.ListWalk.{head_alone, later_none, later_mark, later_step}
use Rattle.directory.proofs.lists.later.Goals as goal

pub bounds-dir-k : goal.bounds-dir-k
bounds-dir-k c = omega (arith, c.requires.2, (said_within _ c.requires.0).clauses_most, c.requires.1.size)

pub bounds-dir-next : goal.bounds-dir-next
bounds-dir-next c = omega (arith, c.requires.2, (said_within _ c.requires.0).clauses_most, c.requires.1.size)

pub loop-j-init : goal.loop-j-init
loop-j-init c = let W = c.args.words.now in let a = c.requires.0 in let k = c.args.k in
    let first = c.from-first.result in
    let end = c.from-end.result in
    let e : first ≡ first_of (said W) k = c.from-first.ensures ∙ first_is W a _ c.requires.1 k c.requires.2 in
    let e' : end ≡ first_of (said W) (k + 1) = c.from-end.ensures ∙ first_next_is W a _ c.requires.1 k c.requires.2 in
    let next = first_next (said W) (below_nth (said W).clauses k c.requires.2).1 in (
      e,
      omega (arith, next),
      omega (arith, first_within (said W) (k + 1) (omega (arith, c.requires.2))),
      c.requires.1,
      λ d q.
          let m : end - first ≡ length d.body = omega (arith, first_next (said W) q) in
          (omega arith, later_none (said W) k d _ _ (omega arith), head_alone d.head (drop (end - first) d.body) c.head_variables-mask.result (rw m (drop-length d.body)) (c.head_variables-mask.ensures d q)),
    )

pub bounds-dir-j : goal.bounds-dir-j
bounds-dir-j c = omega (arith, c.loop-j.invariant.2, c.loop-j.invariant.3.size, c.loop-j-test.true, bodies_at_most _ c.requires.0)

pub loop-j-preserved : goal.loop-j-preserved
loop-j-preserved c = let W = c.args.words.now in let inv = c.loop-j.invariant in let k = c.args.k in let D = c.loop-j.dir in
    let first = c.from-first.result in
    let j = c.loop-j.j - 1 in
    let i = j - first in
    let some = c.loop-j-test.true in (
      inv.0,
      omega (arith, some),
      omega (arith, inv.2),
      placed_set W c.requires.0 D inv.3 _ _ (omega arith),
      λ d q.
          let w = inv.4 d q in
          let e : j ≡ first_of (said W) k + i = omega (arith, inv.0, some) in
          let s : c.loop-j.j - first ≡ suc i = omega (arith, some) in
          let less : i < length d.body = omega (arith, w.0, some) in
          let room : body_list + j < length D = omega (arith, inv.2, inv.3.size, some, bodies_at_most _ c.requires.0) in
          let later = rw s at w.1 in
          let marks = rw s at w.2 in
          let variables = c.body_variables-mask in (
            omega (arith, less),
            later_step (said W) k d q _ D j i e less room c.loop-j.mask later marks variables.result variables.ensures,
            later_mark (said W) k d q _ D j i e less room c.loop-j.mask later marks variables.result variables.ensures,
          ),
    )
