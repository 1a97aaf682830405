-- Laws of numbers as they are written.
use Prim.Native.Nat.{ℕ, zero, suc, ◌+◌, ◌*◌, ◌/◌, ◌%◌, ◌^◌, ◌≤◌, ◌<◌}
use mathlib.Core.Path.{◌≡◌, ap}
use mathlib.Core.Bool.{Bool, true, false, cond}
use mathlib.Core.List.{List, [], ◌∷◌, ◌++◌}
use native.Mathlib.Omega.{arith}
use native.Mathlib.Nat.{pow-suc}
use lib.ListN.{length, length-append}
use lib.Dec.{ltb}
use borrow.Author.Tests.{lt-ltb, le-ltb}
use Rattle.text.specs.Token.{digit0}
use Rattle.text.specs.Decimal.{digits, decimal}

-- room for more digits than a number has changes nothing
pub digits_more : (k n : ℕ) → n < 10 ^ suc k → digits (suc k) n ≡ digits (suc (suc k)) n
digits_more zero n h = rw (lt-ltb n 10 h)
digits_more (suc k) n h =
    ap (λ (ds : List ℕ). cond (ltb n 10) ((digit0 + n) ∷ []) (ds ++ (digit0 + n % 10) ∷ []))
    (digits_more k (n / 10) (let e : 10 ^ suc (suc k) ≡ 10 ^ suc k * 10 = pow-suc 10 (suc k) in omega arith))

pub decimal_one : (n : ℕ) → n < 10 → decimal n ≡ (digit0 + n) ∷ []
decimal_one n h = rw (lt-ltb n 10 h)

pub decimal_more : (n : ℕ) → 10 ≤ n → n < 2 ^ 64 → decimal n ≡ decimal (n / 10) ++ (digit0 + n % 10) ∷ []
decimal_more n h k = rw (le-ltb n 10 h) (ap (λ (ds : List ℕ). ds ++ (digit0 + n % 10) ∷ []) (digits_more 18 (n / 10) (omega arith)))

-- a number of at most so many digits has at most so many
pub digits_few : (count n : ℕ) → length (digits count n) ≤ count
digits_few zero n = omega arith
digits_few (suc count) n = by (ltb n 10) (digits_few count (n / 10))
  where
    by : (b : Bool) → length (digits count (n / 10)) ≤ count → length (cond b ((digit0 + n) ∷ []) (digits count (n / 10) ++ (digit0 + n % 10) ∷ [])) ≤ suc count
    by true few = omega arith
    by false few = omega (arith, few, length-append (digits count (n / 10)) ((digit0 + n % 10) ∷ []))
