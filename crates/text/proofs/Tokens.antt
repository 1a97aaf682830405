-- Laws of tokens: one step of each loop over a token's bytes, and the forms of a token that is not empty.
use Prim.Native.Nat.{ℕ, suc, ◌+◌, ◌-◌, ◌*◌, ◌≤◌, ◌<◌, min}
use mathlib.Core.Path.{◌≡◌, refl}
use mathlib.Core.Bool.{Bool, true, false, not, cond, ◌&&◌}
use mathlib.Core.List.{List, [], ◌∷◌}
use native.Mathlib.Omega.{arith}
use lib.ListN.{length, get_or, drop, drop_of_length-le}
use lib.Seq.{drop-cons}
use lib.Dec.{eqb, leb}
use Rattle.std.specs.Prelude.{Some, None}
use Rattle.text.specs.declared.token.Token.TheVariants.{Name}
use Rattle.text.specs.Name.{name_bytes}
use Rattle.text.specs.Token.{is_lower, is_digit, is_name_byte, every, is_name, zero_first, is_number, value_from, too_large, digit0, sign_of, token_of}

-- numbers that are the same below the cap come to the same with more digits behind them
pub capped_alike : (a b : ℕ) (ds : List ℕ) → min too_large a ≡ min too_large b → min too_large (value_from a ds) ≡ min too_large (value_from b ds)
capped_alike a b [] e = e
capped_alike a b (d ∷ ds) e = capped_alike (10 * a + (d - digit0)) (10 * b + (d - digit0)) ds (omega arith)

pub is_name_of : (s : List ℕ) → 0 < length s → is_name s ≡ is_lower (get_or s 0 0) && (leb (length s) name_bytes && every is_name_byte (drop 1 s))
is_name_of [] h = absurd (omega arith)
is_name_of (b ∷ bs) h = refl

pub is_name_empty : (s : List ℕ) → length s ≡ 0 → is_name s ≡ false
is_name_empty [] e = refl
is_name_empty (b ∷ bs) e = absurd (omega arith)

pub zero_first_of : (s : List ℕ) (i : ℕ) → suc i < length s → zero_first (drop i s) ≡ eqb (get_or s i 0) digit0
zero_first_of s i h = let k : i < length s = omega arith in rw (drop-cons s i 0 k, drop-cons s (suc i) 0 h)

pub zero_first_one : (s : List ℕ) (i : ℕ) → length s ≡ suc i → zero_first (drop i s) ≡ false
zero_first_one s i e = let k : i < length s = omega arith in let z : length s ≤ suc i = omega arith in rw (drop-cons s i 0 k, drop_of_length-le s z)

pub is_number_of : (s : List ℕ) → 0 < length s → is_number s ≡ not (zero_first s) && every is_digit s
is_number_of [] h = absurd (omega arith)
is_number_of (d ∷ ds) h = refl

pub is_number_empty : (s : List ℕ) (i : ℕ) → length s ≤ i → is_number (drop i s) ≡ false
is_number_empty s i h = rw (drop_of_length-le s h)

pub token_of_empty : (query : Bool) (s : List ℕ) → length s ≡ 0 → token_of query s ≡ None
token_of_empty query [] e = refl
token_of_empty query (b ∷ bs) e = absurd (omega arith)

pub token_of_of : (query : Bool) (s : List ℕ) → 0 < length s → token_of query s ≡ cond (is_name s) (Some Name) (sign_of query (get_or s 0 0) (drop 1 s))
token_of_of query [] h = absurd (omega arith)
token_of_of query (b ∷ bs) h = refl

pub token_of_name : (query : Bool) (s : List ℕ) → is_name s ≡ true → token_of query s ≡ Some Name
token_of_name query [] e = absurd (let z : ◌≡◌ {A = ℕ} 0 1 = cc in omega arith)
token_of_name query (b ∷ bs) e = rw e
