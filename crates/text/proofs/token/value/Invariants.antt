-- `text::token::value` meets its contract. The loop's invariant: `n` is the value of the digits so far, as far as the cap. Assumes nothing.
use mathlib.Core.Path.{◌≡◌}
use lib.ListN.{take}
use Rattle.text.specs.Token.{capped}
use Rattle.text.proofs.token.value.Given as goal

abbrev pub invariant-loop-b : goal.invariant-loop-b
invariant-loop-b l = l.n ≡ capped (take l.b-index l.s)
