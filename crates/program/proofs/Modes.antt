-- The goal's modes as a mask, both ways.
use Prim.Native.Nat.{ℕ, zero, suc, ◌+◌, ◌*◌, ◌/◌, ◌%◌, ◌^◌, ◌≤◌, ◌<◌}
use native.Mathlib.Omega.{arith}
use native.Mathlib.Nat.{pow-succ'}
use mathlib.Core.Path.{◌≡◌, refl, ap, ap₂}
use mathlib.Core.List.{List, [], ◌∷◌}
use lib.ListN.{length}
use Rattle.program.specs.Faults.{mask_of}
use Rattle.program.specs.Within.{Each, none, more, modes_of}

pub modes_of_mask : (modes : List ℕ) → Each (λ m. m ≤ 1) modes → modes_of (length modes) (mask_of modes) ≡ modes
modes_of_mask [] none = refl
modes_of_mask (m ∷ ms) (more h each) =
    let low : (m + 2 * mask_of ms) % 2 ≡ m = omega arith in
    let high : (m + 2 * mask_of ms) / 2 ≡ mask_of ms = omega arith in
    ap₂ (λ (x : ℕ) (l : List ℕ). x ∷ l) low (rw high (modes_of_mask ms each))

pub mask_below : (modes : List ℕ) → Each (λ m. m ≤ 1) modes → mask_of modes < 2 ^ length modes
mask_below [] none = omega arith
mask_below (m ∷ ms) (more h each) =
    let below : mask_of ms < 2 ^ length ms = mask_below ms each in
    let twice : 2 ^ suc (length ms) ≡ 2 * 2 ^ length ms = pow-succ' 2 (length ms) in
    rw twice (omega arith)

pub mask_of_modes : (k mask : ℕ) → mask < 2 ^ k → mask_of (modes_of k mask) ≡ mask
mask_of_modes zero mask h = omega arith
mask_of_modes (suc k) mask h =
    let twice : 2 ^ suc k ≡ 2 * 2 ^ k = pow-succ' 2 k in
    let below : mask / 2 < 2 ^ k = omega arith in
    rw (mask_of_modes k (mask / 2) below) (omega arith)

pub modes_each : (k mask : ℕ) → Each (λ m. m ≤ 1) (modes_of k mask)
modes_each zero mask = none
modes_each (suc k) mask = let bit : mask % 2 ≤ 1 = omega arith in more bit (modes_each k (mask / 2))

pub modes_length : (k mask : ℕ) → length (modes_of k mask) ≡ k
modes_length zero mask = refl
modes_length (suc k) mask = ap suc (modes_length k (mask / 2))
