-- `listing_lines::letters::put_letters` meets its contract. The loop's invariant: the letters of the variables below v are written. Assumes nothing.
use native.Mathlib.Omega.{arith}
use native.Mathlib.Numerals.{add-one}
use mathlib.Core.Path.{◌≡◌}
use Rattle.text.proofs.Puts.{put_append}
use Rattle.listing_lines.proofs.LetterLaws.{some_letters}
use Rattle.listing_lines.proofs.letters.put_letters.Goals as goal

pub loop-v-preserved : goal.loop-v-preserved
loop-v-preserved c = rw add-one (put_append c.loop-v.invariant c.put_letter-end.ensures)

pub returns : goal.returns
returns c = let a = c.args in
    let e : c.loop-v.v ≡ 16 = omega arith in
    rw (some_letters a.set a.mask (omega (arith, c.ranges)) c.if-set-eq0.false) (rw e at c.loop-v.invariant)
