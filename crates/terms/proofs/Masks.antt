-- Facts on masks, over any number of variables: a mask is what it marks, there is one for every decided property below a bound, and what `|`, `&` and a single bit mark.
use Prim.Native.Nat.{ℕ, zero, suc, min, max, ◌+◌, ◌*◌, ◌/◌, ◌%◌, ◌^◌, ◌≤◌, ◌<◌}
use native.Mathlib.Omega.{arith}
use native.Mathlib.Decide.{ℕ_discrete, dec_lt}
use native.Mathlib.Nat.{div-div-eq-div-mul, pow-succ', zero-div, div-eq_of_lt, div-one, mod-lt}
use mathlib.Core.Path.{◌≡◌, refl, sym, ap, ◌∙◌}
use mathlib.Core.Logic.{◌↔◌, ◌⊎◌, inl, inr, ⊎_map}
use lib.Arith.{half_le}
use lib.Bits.{bit_and, bit_or, and_step, or_step, and_shr, or_shr}
use lib.Pow.{pow_mono}
use Rattle.terms.specs.Mask.{any, grounded, mark_of, Has, Marks}

-- whether a mask marks a variable
unfoldable pub has_decided : (m v : ℕ) → Dec (Has m v)
unfolding ℕ_discrete
has_decided m v = ℕ_discrete (m / 2 ^ v % 2) 1

-- a mask's mark is any or ground
pub mark_any_or_ground : (m v : ℕ) → (mark_of m v ≡ any) ⊎ (mark_of m v ≡ grounded)
mark_any_or_ground m v = at (ℕ_discrete (mark_of m v) grounded)
  where
    at : Dec (mark_of m v ≡ grounded) → (mark_of m v ≡ any) ⊎ (mark_of m v ≡ grounded)
    at (yes h) = inr h
    at (no n) = inl (omega arith)

-- the bit of a later variable is that of the halved mask
pub halved : (m v : ℕ) → m / 2 / 2 ^ v ≡ m / 2 ^ suc v
halved m v = rw (div-div-eq-div-mul, pow-succ')

pub has_none : (v : ℕ) → Has 0 v → ⊥
has_none v h = let e : 0 / 2 ^ v ≡ 0 = zero-div (2 ^ v) in let z : 0 % 2 ≡ 1 = rw e at h in omega arith

-- a mask below 2^n marks no variable from n on
pub has_below : (n m v : ℕ) → m < 2 ^ n → Has m v → v < n
has_below n m v small h = at (dec_lt v n)
  where
    at : Dec (v < n) → v < n
    at (yes l) = l
    at (no g) =
        let p : 2 ^ n ≤ 2 ^ v = pow_mono (omega arith) in
        let e : m / 2 ^ v ≡ 0 = div-eq_of_lt (omega arith) in
        absurd (let z : 0 % 2 ≡ 1 = rw e at h in omega arith)

-- how many variables a mask speaks of: it is below 2 to that power
unfoldable pub width_within : ℕ → ℕ → ℕ
width_within zero m = 0
width_within (suc n) zero = 0
width_within (suc n) (suc m) = suc (width_within n (suc m / 2))

unfoldable pub width : ℕ → ℕ
unfolding width_within
width m = width_within m m

width_within_below : (n m : ℕ) → m ≤ n → m < 2 ^ width_within n m
unfolding width_within
width_within_below zero m h = let e : m ≡ 0 = omega arith in rw e (omega arith)
width_within_below (suc n) zero h = omega arith
width_within_below (suc n) (suc m) h =
    let below = width_within_below n (suc m / 2) (half_le h) in
    let e = pow-succ' 2 (width_within n (suc m / 2)) in
    omega arith

pub width_below : (m : ℕ) → m < 2 ^ width m
unfolding width
width_below m = width_within_below m m (omega arith)

-- a bit is 0 or 1, so two bits that are 1 together are equal
bits_alike : (a b : ℕ) → (a % 2 ≡ 1 ↔ b % 2 ≡ 1) → a % 2 ≡ b % 2
bits_alike a b h = at (ℕ_discrete (a % 2) 1) (ℕ_discrete (b % 2) 1)
  where
    at : Dec (a % 2 ≡ 1) → Dec (b % 2 ≡ 1) → a % 2 ≡ b % 2
    at (yes p) q = p ∙ sym (h.0 p)
    at (no n) (yes q) = absurd (n (h.1 q))
    at (no n) (no k) = omega arith

first_bit : (m : ℕ) → m / 2 ^ 0 ≡ m
first_bit m = div-one m

same_below : (n m m' : ℕ) → m ≤ n → m' ≤ n → ((v : ℕ) → Has m v ↔ Has m' v) → m ≡ m'
same_below zero m m' p q h = omega arith
same_below (suc n) m m' p q h =
    let later : m / 2 ≡ m' / 2 = same_below n (m / 2) (m' / 2) (half_le p) (half_le q) (λ v. rw (halved m v, halved m' v) (h (suc v))) in
    let first : m % 2 ≡ m' % 2 = bits_alike m m' (rw (first_bit m, first_bit m') at (h 0)) in
    omega arith

-- two masks that mark the same variables are equal
pub same_marks : (m m' : ℕ) → ((v : ℕ) → Has m v ↔ Has m' v) → m ≡ m'
same_marks m m' h = same_below (m + m') m m' (omega arith) (omega arith) h

-- a mask that marks variables below n alone is below 2^n
pub marks_below : (n m : ℕ) → ((v : ℕ) → Has m v → v < n) → m < 2 ^ n
marks_below zero m h = let e = same_marks m 0 (λ v. (λ o. absurd (let l = h v o in omega arith), λ o. absurd (has_none v o))) in omega arith
marks_below (suc n) m h =
    let l = marks_below n (m / 2) (λ v o. let l = h (suc v) (rw (halved m v) at o) in omega arith) in
    rw pow-succ' (omega arith)

pub marks_unique : (P : ℕ → Type 0) (m m' : ℕ) → Marks P m → Marks P m' → m ≡ m'
marks_unique P m m' h h' = same_marks m m' (λ v. (λ b. (h' v).1 ((h v).0 b), λ b. (h v).1 ((h' v).0 b)))

-- properties that say the same are marked by the same masks
pub marks_for : {P Q : ℕ → Type 0} (m : ℕ) → ((v : ℕ) → P v ↔ Q v) → Marks P m → Marks Q m
marks_for m same h v = (λ b. (same v).0 ((h v).0 b), λ q. (h v).1 ((same v).1 q))

-- a decision as a bit
abbrev pub bit : {P : Type 0} → Dec P → ℕ
bit (yes p) = 1
bit (no n) = 0

-- the mask of a decided property of the variables below n
unfoldable pub mask_of : (P : ℕ → Type 0) → ((v : ℕ) → Dec (P v)) → ℕ → ℕ
mask_of P decide zero = 0
mask_of P decide (suc n) = mask_of (λ v. P (suc v)) (λ v. decide (suc v)) n * 2 + bit (decide 0)

pub mask_of_marks : (P : ℕ → Type 0) (decide : (v : ℕ) → Dec (P v)) (n : ℕ) → ((v : ℕ) → P v → v < n) → Marks P (mask_of P decide n)
unfolding mask_of
mask_of_marks P decide zero below v = (λ h. absurd (has_none v h), λ h. absurd (let l = below v h in omega arith))
mask_of_marks P decide (suc n) below zero = at (decide 0)
  where
    rest : ℕ
    rest = mask_of (λ w. P (suc w)) (λ w. decide (suc w)) n

    at : (d : Dec (P 0)) → Has (rest * 2 + bit d) 0 ↔ P 0
    at (yes p) = (λ h. p, λ h. rw first_bit (omega arith))
    at (no k) = (λ h. absurd (let z : (rest * 2 + 0) % 2 ≡ 1 = rw first_bit at h in omega arith), λ h. absurd (k h))
mask_of_marks P decide (suc n) below (suc v) = at (decide 0) (mask_of_marks (λ w. P (suc w)) (λ w. decide (suc w)) n (λ w h. let l = below (suc w) h in omega arith) v)
  where
    rest : ℕ
    rest = mask_of (λ w. P (suc w)) (λ w. decide (suc w)) n

    at : (d : Dec (P 0)) → Has rest v ↔ P (suc v) → Has (rest * 2 + bit d) (suc v) ↔ P (suc v)
    at (yes p) h = let e : (rest * 2 + 1) / 2 ≡ rest = omega arith in rw (← halved (rest * 2 + 1) v, e) h
    at (no k) h = let e : (rest * 2 + 0) / 2 ≡ rest = omega arith in rw (← halved (rest * 2 + 0) v, e) h

-- the bits of `|` and of `&`
or_bit : (a b v : ℕ) → bit_or a b / 2 ^ v % 2 ≡ max (a / 2 ^ v % 2) (b / 2 ^ v % 2)
or_bit a b v =
    let l = mod-lt (a / 2 ^ v) {m = 2} (omega arith) in
    let r = mod-lt (b / 2 ^ v) {m = 2} (omega arith) in
    let e = or_step (a / 2 ^ v) (b / 2 ^ v) in
    rw (or_shr a b v) (omega arith)

and_bit : (a b v : ℕ) → bit_and a b / 2 ^ v % 2 ≡ min (a / 2 ^ v % 2) (b / 2 ^ v % 2)
and_bit a b v =
    let l = mod-lt (a / 2 ^ v) {m = 2} (omega arith) in
    let r = mod-lt (b / 2 ^ v) {m = 2} (omega arith) in
    let e = and_step (a / 2 ^ v) (b / 2 ^ v) in
    rw (and_shr a b v) (omega arith)

pub has_or : (a b : ℕ) → Marks (λ v. Has a v ⊎ Has b v) (bit_or a b)
has_or a b v = (λ h. at h (ℕ_discrete (a / 2 ^ v % 2) 1), back)
  where
    at : Has (bit_or a b) v → Dec (Has a v) → Has a v ⊎ Has b v
    at h (yes p) = inl p
    at h (no n) = let e = or_bit a b v in inr (omega arith)

    back : Has a v ⊎ Has b v → Has (bit_or a b) v
    back (inl p) = let e = or_bit a b v in omega arith
    back (inr q) = let e = or_bit a b v in omega arith

pub has_and : (a b : ℕ) → Marks (λ v. Has a v × Has b v) (bit_and a b)
has_and a b v = let e = and_bit a b v in (λ h. (omega arith, omega arith), λ h. let p = h.0 in let q = h.1 in omega arith)

pub marks_or : {P Q : ℕ → Type 0} (a b : ℕ) → Marks P a → Marks Q b → Marks (λ v. P v ⊎ Q v) (bit_or a b)
marks_or a b p q v =
    (λ h. ⊎_map (p v).0 (q v).0 ((has_or a b v).0 h), λ h. (has_or a b v).1 (⊎_map (p v).1 (q v).1 h))

-- a single bit
pub has_one : (v : ℕ) → Marks (λ w. w ≡ v) (2 ^ v)
has_one zero zero = (λ h. refl, λ e. refl)
has_one zero (suc w) = (λ h. absurd (has_none w (rw (← halved 1 w) at h)), λ e. absurd (omega arith))
has_one (suc v) zero = (λ h. absurd (let z : 2 ^ suc v % 2 ≡ 1 = rw first_bit at h in let e = pow-succ' 2 v in omega arith), λ e. absurd (omega arith))
has_one (suc v) (suc w) =
    let e : 2 ^ suc v / 2 ≡ 2 ^ v = let d = pow-succ' 2 v in omega arith in
    let h : Has (2 ^ suc v) (suc w) ↔ w ≡ v = rw (← halved (2 ^ suc v) w, e) (has_one v w) in
    (λ b. ap suc (h.0 b), λ q. h.1 (omega arith))

-- one mask is inside another where the bits of both are its own
pub inside_and : (a b : ℕ) → (bit_and a b ≡ a) ↔ ((v : ℕ) → Has a v → Has b v)
inside_and a b = (
  λ e v h. ((has_and a b v).0 (rw e h)).1,
  λ sub. same_marks (bit_and a b) a (λ v. (λ h. ((has_and a b v).0 h).0, λ h. (has_and a b v).1 (h, sub v h))),
)
