-- The marks of the first n variables are 2^n - 1.
use Prim.Native.Nat.{ℕ, zero, suc, ◌-◌, ◌/◌, ◌^◌, ◌<◌}
use native.Mathlib.Omega.{arith}
use native.Mathlib.Nat.{pow-succ', div-one}
use lib.Pow.{pow_pos}
use mathlib.Core.Path.{◌≡◌}
use Rattle.terms.specs.Mask.{Marks}
use Rattle.terms.proofs.Masks.{halved, has_none}

pub first_marks : (n : ℕ) → Marks (λ v. v < n) (2 ^ n - 1)
first_marks zero v = (λ h. absurd (has_none v h), λ h. absurd (omega arith))
first_marks (suc n) zero =
    (λ h. omega arith, λ h. let e = pow-succ' 2 n in let p : 0 < 2 ^ n = pow_pos n in rw div-one (omega arith))
first_marks (suc n) (suc v) =
    let p : 0 < 2 ^ n = pow_pos n in
    let d = pow-succ' 2 n in
    let e : (2 ^ suc n - 1) / 2 ≡ 2 ^ n - 1 = omega arith in
    let h = rw (← e, halved (2 ^ suc n - 1) v) at (first_marks n v) in
    (λ b. let l = h.0 b in omega arith, λ l. h.1 (omega arith))
