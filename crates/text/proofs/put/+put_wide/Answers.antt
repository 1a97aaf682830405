-- `text::put::put_wide` meets its contract: the digits before the last are a smaller number's. The measure is the number. Assumes nothing.
use native.Mathlib.Omega.{arith}
use Rattle.text.proofs.Decimals.{decimal_one, decimal_more}
use Rattle.text.proofs.Puts.{put_append}
use Rattle.text.proofs.put.+put_wide.Goals as goal

pub returns : goal.returns
returns t c =
    rw (decimal_more c.args.n (omega arith) (omega arith), ← c.digit-2.ensures) (put_append c.put_wide-end.ensures c.put_byte-2.ensures)

pub returns-then-n-lt10 : goal.returns-then-n-lt10
returns-then-n-lt10 t c = rw (decimal_one c.args.n (omega arith), ← c.digit.ensures) c.put_byte.ensures
