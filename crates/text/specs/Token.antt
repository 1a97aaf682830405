-- Tokens of scenario texts: names, numbers, variables.
use Rattle.std.specs.Prelude.{ℕ, ◌+◌, ◌-◌, ◌*◌, min, Bool, true, false, not, cond, ◌&&◌, ◌||◌, Option, Some, None, List, [], ◌∷◌, length, eqb, leb}
use Rattle.std.specs.List.{list_all, fold}
use Rattle.text.specs.declared.token.Token.{Token}
use Rattle.text.specs.declared.token.Token.TheVariants.{Name, Variable}
use Rattle.text.specs.Name.{name_bytes}

-- the bytes that tokens are made of
abbrev pub lower_a : ℕ
lower_a = 97

abbrev pub lower_z : ℕ
lower_z = 122

abbrev pub digit0 : ℕ
digit0 = 48

abbrev pub digit9 : ℕ
digit9 = 57

abbrev pub underscore : ℕ
underscore = 95

abbrev pub upper_v : ℕ
upper_v = 86

abbrev pub upper_g : ℕ
upper_g = 71

abbrev pub is_lower : ℕ → Bool
is_lower b = leb lower_a b && leb b lower_z

abbrev pub is_digit : ℕ → Bool
is_digit b = leb digit0 b && leb b digit9

-- "letters a-z, digits or `_`"
abbrev pub is_name_byte : ℕ → Bool
is_name_byte b = is_lower b || (is_digit b || eqb b underscore)

abbrev pub every : (ℕ → Bool) → List ℕ → Bool
every p bs = list_all p bs

-- "A name is a lower-case letter and then up to 15 letters a-z, digits or `_`"
abbrev pub is_name : List ℕ → Bool
is_name [] = false
is_name (b ∷ bs) = is_lower b && (leb (length (b ∷ bs)) name_bytes && every is_name_byte bs)

-- a zero with more behind it
abbrev pub zero_first : List ℕ → Bool
zero_first [] = false
zero_first (d ∷ []) = false
zero_first (d ∷ e ∷ ds) = eqb d digit0

-- "Numbers have no leading zero."
abbrev pub is_number : List ℕ → Bool
is_number [] = false
is_number (d ∷ ds) = not (zero_first (d ∷ ds)) && every is_digit (d ∷ ds)

abbrev pub value_from : ℕ → List ℕ → ℕ
value_from n ds = fold (λ m d. 10 * m + (d - digit0)) n ds

-- what the digits say
abbrev pub value : List ℕ → ℕ
value ds = value_from 0 ds

-- Every number above the limit of its place is refused alike, so that one number stands for all of them.
abbrev pub too_large : ℕ
too_large = 99

abbrev pub capped : List ℕ → ℕ
capped ds = min too_large (value ds)

-- a number, of any size
abbrev pub number_of : List ℕ → Option ℕ
number_of ds = cond (is_number ds) (Some (capped ds)) None

-- "`V` or `G` with any larger number is well formed"
abbrev pub signed : Bool → Option ℕ → Option Token
signed grounded None = None
signed grounded (Some n) = Some (Variable grounded n)

abbrev pub variable_of : Bool → List ℕ → Option Token
variable_of grounded ds = signed grounded (number_of ds)

-- "Variables are `V0` to `V15`; in the query `G` instead of `V` marks ground."
abbrev pub sign_of : Bool → ℕ → List ℕ → Option Token
sign_of query b ds = cond (eqb b upper_v) (variable_of false ds) (cond (query && eqb b upper_g) (variable_of true ds) None)

-- a token of a query line, or of a clause line
abbrev pub token_of : Bool → List ℕ → Option Token
token_of query [] = None
token_of query (b ∷ bs) = cond (is_name (b ∷ bs)) (Some Name) (sign_of query b bs)
