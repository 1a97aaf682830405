-- What a token says, it is written as: numbers, variables, names, and a name found among those kept.
use Prim.Native.Nat.{ℕ, zero, suc, ◌+◌, ◌-◌, ◌*◌, ◌≤◌, ◌<◌}
use native.Mathlib.Omega.{arith}
use native.Mathlib.Decide.{ℕ_discrete}
use mathlib.Core.Path.{◌≡◌, refl, sym, ap, ap₂, ◌∙◌}
use mathlib.Core.Bool.{Bool, true, false, not, cond, ◌&&◌, ◌||◌}
use mathlib.Core.List.{List, [], ◌∷◌}
use lib.ListN.{length, get_or}
use lib.Dec.{eqb, leb}
use borrow.Author.Tests.{leb-true, eqb-true, eqb-false, ne_eqb, not-true}
use Rattle.std.specs.Prelude.{Option, Some, None}
use Rattle.program.specs.Limits.{max_variable}
use Rattle.text.specs.Room.{in_room}
use Rattle.text.specs.Line.{up_to}
use Rattle.text.specs.Token.{lower_a, digit0, digit9, underscore, upper_v, upper_g, is_lower, is_digit, is_name_byte, every, is_name, is_number, value_from, value, capped, number_of, signed, variable_of, sign_of, token_of}
use Rattle.text.specs.Name.{name_bytes, padded, entry, same, seek}
use Rattle.text.specs.Decimal.{decimal}
use Rattle.text.specs.declared.token.Token.TheVariants.{Name, Variable}
use Rattle.text.proofs.Names.{same_equal}
use Rattle.cells.specs.Cells.{mode_of}
use Rattle.written_lines.specs.Tokens.{name_in, variable_token}

pub both_true : (a b : Bool) → a && b ≡ true → (a ≡ true) × (b ≡ true)
both_true true b e = (refl, e)
both_true false b e = let z : ◌≡◌ {A = ℕ} 0 1 = cc in absurd (omega arith)

-- what holds of each number below a bound
abbrev AllBelow : (ℕ → Type 0) → ℕ → Type 0
AllBelow P zero = Unit {0}
AllBelow P (suc m) = P m × AllBelow P m

all_below : (P : ℕ → Type 0) (m n : ℕ) → AllBelow P m → n < m → P n
all_below P zero n all h = absurd (omega arith)
all_below P (suc m) n all h = by (ℕ_discrete n m) (λ l. all_below P m n all.1 l)
  where
    by : Dec (n ≡ m) → (n < m → P n) → P n
    by (yes e) ih = rw e all.0
    by (no e) ih = let l : n < m = omega arith in ih l

-- the decimals that stand in texts: one digit, or a 1 and a digit up to 5
pub decimal_one : (n : ℕ) → n < 10 → decimal n ≡ (digit0 + n) ∷ []
decimal_one n h =
    all_below (λ k. decimal k ≡ (digit0 + k) ∷ []) 10 n
    (refl, (refl, (refl, (refl, (refl, (refl, (refl, (refl, (refl, (refl, tt)))))))))) h

pub decimal_two : (n : ℕ) → n < 6 → decimal (10 + n) ≡ (digit0 + 1) ∷ (digit0 + n) ∷ []
decimal_two n h =
    all_below (λ k. decimal (10 + k) ≡ (digit0 + 1) ∷ (digit0 + k) ∷ []) 6 n
    (refl, (refl, (refl, (refl, (refl, (refl, tt)))))) h

-- more digits make a number no smaller
value_grows : (n : ℕ) (ds : List ℕ) → n ≤ value_from n ds
value_grows n [] = omega arith
value_grows n (d ∷ ds) = let ih = value_grows (10 * n + (d - digit0)) ds in omega arith

digit_between : (d : ℕ) → is_digit d ≡ true → (digit0 ≤ d) × (d ≤ digit9)
digit_between d e = let b = both_true (leb digit0 d) (leb d digit9) e in (leb-true _ _ b.0, leb-true _ _ b.1)

-- digits without a leading zero that say a number up to 15 are its decimal
digits_are : (ds : List ℕ) → is_number ds ≡ true → value ds ≤ max_variable → ds ≡ decimal (value ds)
digits_are [] e h = let z : ◌≡◌ {A = ℕ} 0 1 = cc in absurd (omega arith)
digits_are (d ∷ []) e h =
    let between = digit_between d (both_true (is_digit d) true e).0 in
    let says : value (d ∷ []) ≡ d - digit0 = omega arith in
    let back : digit0 + (d - digit0) ≡ d = omega arith in
    sym (ap decimal says ∙ decimal_one (d - digit0) (omega arith) ∙ ap (λ (x : ℕ). x ∷ []) back)
digits_are (d ∷ c ∷ []) e h =
    let parts = both_true (not (eqb d digit0)) (is_digit d && (is_digit c && true)) e in
    let other = eqb-false d digit0 (not-true (eqb d digit0) parts.0) in
    let first = digit_between d (both_true (is_digit d) (is_digit c && true) parts.1).0 in
    let second = digit_between c (both_true (is_digit c) true (both_true (is_digit d) (is_digit c && true) parts.1).1).0 in
    let one : d ≡ digit0 + 1 = omega arith in
    let says : value (d ∷ c ∷ []) ≡ 10 + (c - digit0) = omega arith in
    let back : digit0 + (c - digit0) ≡ c = omega arith in
    sym (ap decimal says ∙ decimal_two (c - digit0) (omega arith) ∙ ap₂ (λ (x y : ℕ). x ∷ y ∷ []) (sym one) back)
digits_are (d ∷ c ∷ b ∷ ds) e h =
    let parts = both_true (not (eqb d digit0)) (every is_digit (d ∷ c ∷ b ∷ ds)) e in
    let other = eqb-false d digit0 (not-true (eqb d digit0) parts.0) in
    let first = digit_between d (both_true (is_digit d) (every is_digit (c ∷ b ∷ ds)) parts.1).0 in
    let grows = value_grows (10 * (10 * (10 * 0 + (d - digit0)) + (c - digit0)) + (b - digit0)) ds in
    absurd (omega arith)

-- a number up to 15 that is read is written with the same digits
pub number_decimal : (ds : List ℕ) (n : ℕ) → number_of ds ≡ Some n → n ≤ max_variable → ds ≡ decimal n
number_decimal ds n e h = by (is_number ds) refl e
  where
    by : (t : Bool) → is_number ds ≡ t → cond t (Some (capped ds)) None ≡ Some n → ds ≡ decimal n
    by true f q =
        let is : capped ds ≡ n = cc in
        let same-value : value ds ≡ n = omega arith in
        digits_are ds f (omega arith) ∙ ap decimal same-value
    by false f q = let z : ◌≡◌ {A = ℕ} 0 1 = cc in absurd (omega arith)

-- the byte that a variable begins with
abbrev pub sign_byte : Bool → ℕ
sign_byte grounded = cond grounded upper_g upper_v

pub variable_token_is : (modes : List ℕ) (v : ℕ) (grounded : Bool) → get_or modes v 0 ≡ mode_of grounded → variable_token modes v ≡ sign_byte grounded ∷ decimal v
variable_token_is modes v true e = rw e
variable_token_is modes v false e = rw e

-- what is known of a variable's token
pub record VariableToken (query : Bool) (s : List ℕ) (grounded : Bool) (v : ℕ) : Type 0 where
  pub is : v ≤ max_variable → s ≡ sign_byte grounded ∷ decimal v
  pub any : query ≡ false → grounded ≡ false

signed_is : (query grounded : Bool) (b : ℕ) (ds : List ℕ) (grounded' : Bool) (v : ℕ) (n : Option ℕ) → number_of ds ≡ n → b ≡ sign_byte grounded → (query ≡ false → grounded ≡ false)
    → signed grounded n ≡ Some (Variable grounded' v) → VariableToken query (b ∷ ds) grounded' v
signed_is query grounded b ds grounded' v None f e any q = let z : ◌≡◌ {A = ℕ} 0 1 = cc in absurd (omega arith)
signed_is query grounded b ds grounded' v (Some n) f e any q =
    let alike : grounded ≡ grounded' = cc in
    let number : n ≡ v = cc in
    rw (← alike, ← number) (record { is = λ h. ap₂ (λ (x : ℕ) (l : List ℕ). x ∷ l) e (number_decimal ds n f h); any = any })

pub variable_token_law : (query : Bool) (s : List ℕ) (grounded : Bool) (v : ℕ) → token_of query s ≡ Some (Variable grounded v) → VariableToken query s grounded v
variable_token_law query [] grounded v e = let z : ◌≡◌ {A = ℕ} 0 1 = cc in absurd (omega arith)
variable_token_law query (b ∷ ds) grounded v e = by (is_name (b ∷ ds)) e
  where
    third : (t : Bool) → query && eqb b upper_g ≡ t → cond t (variable_of true ds) None ≡ Some (Variable grounded v) → VariableToken query (b ∷ ds) grounded v
    third true f q =
        let parts = both_true query (eqb b upper_g) f in
        signed_is query true b ds grounded v (number_of ds) refl (eqb-true b upper_g parts.1)
        (λ no-query. let z : ◌≡◌ {A = ℕ} 0 1 = cc in absurd (omega arith)) q
    third false f q = let z : ◌≡◌ {A = ℕ} 0 1 = cc in absurd (omega arith)

    second : (t : Bool) → eqb b upper_v ≡ t → cond t (variable_of false ds) (cond (query && eqb b upper_g) (variable_of true ds) None) ≡ Some (Variable grounded v)
        → VariableToken query (b ∷ ds) grounded v
    second true f q = signed_is query false b ds grounded v (number_of ds) refl (eqb-true b upper_v f) (λ no-query. refl) q
    second false f q = third (query && eqb b upper_g) refl q

    by : (t : Bool) → cond t (Some Name) (sign_of query b ds) ≡ Some (Variable grounded v) → VariableToken query (b ∷ ds) grounded v
    by true q = let z : ◌≡◌ {A = ℕ} 0 1 = cc in absurd (omega arith)
    by false q = second (eqb b upper_v) refl q

number_no_name : (grounded : Bool) (n : Option ℕ) → signed grounded n ≡ Some Name → ⊥
number_no_name grounded None q = let z : ◌≡◌ {A = ℕ} 0 1 = cc in omega arith
number_no_name grounded (Some n) q = let z : ◌≡◌ {A = ℕ} 0 1 = cc in omega arith

-- a token that is taken for a name is one
pub name_token : (query : Bool) (s : List ℕ) → token_of query s ≡ Some Name → is_name s ≡ true
name_token query [] e = let z : ◌≡◌ {A = ℕ} 0 1 = cc in absurd (omega arith)
name_token query (b ∷ ds) e = by (is_name (b ∷ ds)) e
  where
    third : (t : Bool) → cond t (variable_of true ds) None ≡ Some Name → ⊥
    third true q = number_no_name true (number_of ds) q
    third false q = let z : ◌≡◌ {A = ℕ} 0 1 = cc in omega arith

    second : (t : Bool) → cond t (variable_of false ds) (cond (query && eqb b upper_g) (variable_of true ds) None) ≡ Some Name → ⊥
    second true q = number_no_name false (number_of ds) q
    second false q = third (query && eqb b upper_g) q

    by : (t : Bool) → cond t (Some Name) (sign_of query b ds) ≡ Some Name → t ≡ true
    by true q = refl
    by false q = absurd (second (eqb b upper_v) q)

name_byte_above : (b : ℕ) → is_name_byte b ≡ true → b ≡ 0 → ⊥
name_byte_above b e z = by (is_lower b) refl (is_digit b) refl e
  where
    by : (l : Bool) → is_lower b ≡ l → (d : Bool) → is_digit b ≡ d → l || (d || eqb b underscore) ≡ true → ⊥
    by true f d g q = let h = leb-true lower_a b (both_true _ _ f).0 in omega arith
    by false f true g q = let h = digit_between b g in omega arith
    by false f false g q = let h = eqb-true b underscore q in omega arith

-- bytes of names in a room with zeros behind them: those before the first zero
bytes_before_zero : (m : ℕ) (s : List ℕ) → every is_name_byte s ≡ true → length s ≤ m → up_to 0 (in_room m s) ≡ s
bytes_before_zero zero [] e h = refl
bytes_before_zero zero (b ∷ bs) e h = absurd (omega arith)
bytes_before_zero (suc m) [] e h = refl
bytes_before_zero (suc m) (b ∷ bs) e h =
    let parts = both_true (is_name_byte b) (every is_name_byte bs) e in
    rw (ne_eqb b 0 (name_byte_above b parts.0)) (ap (λ (l : List ℕ). b ∷ l) (bytes_before_zero m bs parts.1 (omega arith)))

-- the 16 bytes of a name say the name
pub name_in_padded : (s : List ℕ) → is_name s ≡ true → name_in (padded s) ≡ s
name_in_padded [] e = refl
name_in_padded (b ∷ bs) e =
    let parts = both_true (is_lower b) (leb (length (b ∷ bs)) name_bytes && every is_name_byte bs) e in
    let more = both_true (leb (length (b ∷ bs)) name_bytes) (every is_name_byte bs) parts.1 in
    bytes_before_zero name_bytes (b ∷ bs) (rw parts.0 more.1) (leb-true _ _ more.0)

-- what is found among the names is the name that was sought
pub seek_found : (names key : List ℕ) (i n : ℕ) → seek names key i n < i + n → (i ≤ seek names key i n) × (entry names (seek names key i n) ≡ key)
seek_found names key i zero h = absurd (omega arith)
seek_found names key i (suc n) h = by (same (entry names i) key) refl (seek_found names key (suc i) n) h
  where
    Found : ℕ → Type 0
    Found k = (i ≤ k) × (entry names k ≡ key)

    by : (t : Bool) → same (entry names i) key ≡ t
        → (seek names key (suc i) n < suc i + n → (suc i ≤ seek names key (suc i) n) × (entry names (seek names key (suc i) n) ≡ key))
        → cond t i (seek names key (suc i) n) < i + suc n → Found (cond t i (seek names key (suc i) n))
    by true f ih l = (omega arith, same_equal (entry names i) key f)
    by false f ih l = let below : seek names key (suc i) n < suc i + n = omega arith in let r = ih below in (omega arith, r.1)
