-- `listing_lines::letters::is_in` meets its contract: the test of a set's bit is whether the set has the variable. Assumes nothing.
use mathlib.Core.Logic.Iff
use Rattle.listing_lines.proofs.LetterLaws.{same_test, in_set_law}
use Rattle.listing_lines.proofs.letters.is_in.Goals as goal

pub returns : goal.returns
returns c = let a = c.args in
    same_test _ _ (Iff.trans (rw c.from.ensures at c.has.ensures) (Iff.symm (in_set_law a.set a.v)))
