-- The numbers that a text has, 0 to 15, are printed as tokens, and read as themselves.
use Prim.Native.Nat.{ℕ, ◌+◌, ◌-◌, ◌*◌, ◌≤◌, ◌<◌, min}
use native.Mathlib.Omega.{arith}
use native.Mathlib.Decide.{dec_lt}
use mathlib.Core.Path.{◌≡◌}
use lib.ListN.{length}
use borrow.Author.Tests.{le-leb}
use Rattle.std.specs.Prelude.{Some}
use Rattle.terms.specs.Cells.{variables}
use Rattle.program.specs.Within.{none, more}
use Rattle.text.specs.Token.{digit0, digit9, too_large, number_of}
use Rattle.text.specs.Decimal.{decimal}
use Rattle.round_trips.proofs.Tokens.{decimal_one, decimal_two}
use Rattle.round_trips.proofs.Printed.{Bytes}

pub record PrintedNumber (n : ℕ) : Type 0 where
  pub read : number_of (decimal n) ≡ Some n
  pub bytes : Bytes (decimal n)
  pub short : length (decimal n) ≤ 2

one_digit : (n : ℕ) → n < 10 → PrintedNumber n
one_digit n h =
    let low : digit0 ≤ digit0 + n = omega arith in
    let high : digit0 + n ≤ digit9 = omega arith in
    let says : min too_large (10 * 0 + (digit0 + n - digit0)) ≡ n = omega arith in
    record {
      read = rw (decimal_one n h, le-leb digit0 (digit0 + n) low, le-leb (digit0 + n) digit9 high, says);
      bytes = rw (decimal_one n h) (more {a = digit0 + n} (omega arith) none);
      short = rw (decimal_one n h) (omega arith);
    }

two_digits : (n : ℕ) → n < 6 → PrintedNumber (10 + n)
two_digits n h =
    let low : digit0 ≤ digit0 + n = omega arith in
    let high : digit0 + n ≤ digit9 = omega arith in
    let says : min too_large (10 * 1 + (digit0 + n - digit0)) ≡ 10 + n = omega arith in
    record {
      read = rw (decimal_two n h, le-leb digit0 (digit0 + n) low, le-leb (digit0 + n) digit9 high, says);
      bytes = rw (decimal_two n h) (more {a = digit0 + 1} (omega arith) (more {a = digit0 + n} (omega arith) none));
      short = rw (decimal_two n h) (omega arith);
    }

pub number_printed : (n : ℕ) → n < variables → PrintedNumber n
number_printed n h = by (dec_lt n 10)
  where
    by : Dec (n < 10) → PrintedNumber n
    by (yes l) = one_digit n l
    by (no l) = let ten : n ≡ 10 + (n - 10) = omega arith in rw ten (two_digits (n - 10) (omega arith))
