-- Numbers as they are written.
use Rattle.std.specs.Prelude.{ℕ, zero, suc, ◌+◌, ◌/◌, ◌%◌, cond, List, [], ◌∷◌, ◌++◌, ltb}
use Rattle.text.specs.Token.{digit0}

-- "Numbers have no leading zero." A number of at most so many digits.
abbrev pub digits : ℕ → ℕ → List ℕ
digits zero n = []
digits (suc count) n = cond (ltb n 10) ((digit0 + n) ∷ []) (digits count (n / 10) ++ (digit0 + n % 10) ∷ [])

-- a number of 64 bits has at most twenty digits
abbrev pub decimal : ℕ → List ℕ
decimal n = digits 20 n
