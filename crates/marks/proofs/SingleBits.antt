-- Single variables of a mask: the lowest that it marks, and variables that just one of two masks marks.
use Prim.Native.Nat.{ℕ, zero, suc, ◌/◌, ◌%◌, ◌^◌, ◌≤◌, ◌<◌}
use native.Mathlib.Omega.{arith}
use native.Mathlib.Nat.{div-one, mod-lt, pow-succ'}
use mathlib.Core.Path.{◌≡◌, refl}
use mathlib.Core.Logic.{◌↔◌, ◌⊎◌, inl, inr}
use lib.Bits.{bit_xor, differ, xor_step, xor_shr}
use lib.Count.{count_trailing_zeros, under}
use Rattle.terms.specs.Cells.{variables}
use Rattle.terms.specs.Mask.{Has, Marks}
use Rattle.terms.proofs.Masks.{halved}
use Rattle.terms.proofs.Without.{bit_within}

first_bit : (m : ℕ) → m / 2 ^ 0 ≡ m
first_bit m = div-one m

-- the lowest variable of a mask is one of its own
pub lowest_has : (k m : ℕ) → 0 < m → m < 2 ^ k → Has m (count_trailing_zeros k m) × (count_trailing_zeros k m < k)
unfolding count_trailing_zeros
lowest_has zero m some small = absurd (omega arith)
lowest_has (suc k) m some small = at (lowest_has k (m / 2)) (m % 2) refl
  where
    at : (0 < m / 2 → m / 2 < 2 ^ k → Has (m / 2) (count_trailing_zeros k (m / 2)) × (count_trailing_zeros k (m / 2) < k)) → (d : ℕ) → m % 2 ≡ d
        → Has m (under d (count_trailing_zeros k (m / 2))) × (under d (count_trailing_zeros k (m / 2)) < suc k)
    at rest zero e =
        let p = pow-succ' 2 k in
        let h = rest (omega arith) (omega arith) in
        (rw halved at h.0, let b = h.1 in omega arith)
    at rest (suc zero) e = (rw first_bit e, omega arith)
    at rest (suc (suc d)) e = absurd (omega arith)

-- a mask's lowest variable is its own and below 16, and its bit can be taken away
pub lowest_turn : (left x : ℕ) → 0 < left → left < 2 ^ variables → x ≡ count_trailing_zeros variables left → Has left x × (x < variables) × (2 ^ x ≤ left)
lowest_turn left x some small e =
    let h = lowest_has variables left some small in
    rw e (h.0, h.1, bit_within left (count_trailing_zeros variables left) h.0)

-- one of two, and not the other
abbrev pub JustOne : Type 0 → Type 0 → Type 0
JustOne A B = (A × (B → ⊥)) ⊎ (B × (A → ⊥))

-- two bits differ where just one is set
differ_bits : (p q : ℕ) → p < 2 → q < 2 → (differ p q < 2) × ((differ p q ≡ 1) ↔ JustOne (p ≡ 1) (q ≡ 1))
differ_bits zero zero l l' = (omega arith, (λ e. absurd (omega arith), λ j. absurd (none j)))
  where
    none : JustOne (◌≡◌ {A = ℕ} 0 1) (◌≡◌ {A = ℕ} 0 1) → ⊥
    none (inl j) = let e = j.0 in omega arith
    none (inr j) = let e = j.0 in omega arith
differ_bits zero (suc zero) l l' = (omega arith, (λ e. inr (refl, λ z. omega arith), λ j. refl))
differ_bits (suc zero) zero l l' = (omega arith, (λ e. inl (refl, λ z. omega arith), λ j. refl))
differ_bits (suc zero) (suc zero) l l' = (omega arith, (λ e. absurd (omega arith), λ j. absurd (both j)))
  where
    both : JustOne (◌≡◌ {A = ℕ} 1 1) (◌≡◌ {A = ℕ} 1 1) → ⊥
    both (inl j) = j.1 refl
    both (inr j) = j.1 refl
differ_bits (suc (suc p)) q l l' = absurd (omega arith)
differ_bits zero (suc (suc q)) l l' = absurd (omega arith)
differ_bits (suc zero) (suc (suc q)) l l' = absurd (omega arith)

pub has_xor : (a b : ℕ) → Marks (λ v. JustOne (Has a v) (Has b v)) (bit_xor a b)
has_xor a b v =
    let d = differ_bits (a / 2 ^ v % 2) (b / 2 ^ v % 2) (mod-lt (a / 2 ^ v) {m = 2} (omega arith)) (mod-lt (b / 2 ^ v) {m = 2} (omega arith)) in
    let s = xor_step (a / 2 ^ v) (b / 2 ^ v) in
    let e : bit_xor (a / 2 ^ v) (b / 2 ^ v) % 2 ≡ differ (a / 2 ^ v % 2) (b / 2 ^ v % 2) = let l = d.0 in omega arith in
    rw (xor_shr a b v, e) d.1
