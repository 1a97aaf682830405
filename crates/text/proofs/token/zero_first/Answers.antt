-- `text::token::zero_first` meets its contract. Assumes nothing.
use mathlib.Core.Path.{sym}
use native.Mathlib.Omega.{arith}
use Rattle.text.proofs.Tokens.{zero_first_one}
use Rattle.text.proofs.token.zero_first.Goals as goal

pub returns : goal.returns
returns c = sym (zero_first_one c.args.s.now c.args.from (omega arith))
