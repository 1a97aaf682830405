-- `listing_lines::letters::put_letters` meets its contract. The loop's invariant: the letters of the variables below v are written. Assumes nothing.
use Rattle.text.specs.Put.{Put}
use Rattle.listing_lines.specs.Letters.{letters_below}
use Rattle.listing_lines.specs.Set.{in_set}
use Rattle.listing_lines.proofs.letters.put_letters.Given as goal

abbrev pub invariant-loop-v : goal.invariant-loop-v
invariant-loop-v l = Put (letters_below (in_set l.set) l.mask l.v) l.initial.out l.out l.at l.end
