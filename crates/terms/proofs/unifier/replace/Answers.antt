-- `replace` meets its contract: a set that has x is replaced, and another stays as it was.
use lib.ListN.{get_or}
use native.Mathlib.Omega.{arith}
use Rattle.terms.proofs.Replacing.{replaced_with, replaced_without, halfway_more}
use Rattle.terms.proofs.unifier.replace.Goals as goal
use Rattle.terms.proofs.unifier.replace.Goals.{else-has, then-has}

pub loop-set-preserved : goal.loop-set-preserved
loop-set-preserved c = let l = c.loop-set in
    let old = get_or l.sets l.set-index 0 in
    elim c.if-has.branch [
      | then-has w ↦ rw (w.set-is, c.only-bit.ensures) (halfway_more c.args.x c.args.gained c.args.sets.now l.sets l.set-index _ (omega arith) l.invariant
          (replaced_with c.args.x c.args.gained old (c.has.ensures.0 (rw w.if-has.true tt))))
      | else-has w ↦ rw w.set-is (halfway_more c.args.x c.args.gained c.args.sets.now l.sets l.set-index _ (omega arith) l.invariant
          (replaced_without c.args.x c.args.gained old (λ b. rw w.if-has.false at (c.has.ensures.1 b))))
    ]
