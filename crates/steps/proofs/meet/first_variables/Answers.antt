-- `first_variables` meets its contract: 2^count - 1 marks the variables below the count, and a shift by at most 16 loses nothing. Assumes nothing.
-- nothing is lost
use Prim.Native.Nat.{ℕ, ◌*◌, ◌%◌, ◌^◌, ◌≤◌}
use native.Mathlib.Omega.{arith}
use native.Mathlib.Nat.{one-mul, mod-eq_of_lt}
use mathlib.Core.Path.{◌≡◌}
use lib.Pow.{pow-lt, pow_mono, pow_pos}
use Rattle.steps.proofs.FirstVariables.{first_marks}
use Rattle.steps.proofs.meet.first_variables.Goals as goal

shifted : (n : ℕ) → n ≤ 16 → 1 * 2 ^ n % 4294967296 ≡ 2 ^ n
shifted n h = rw one-mul (mod-eq_of_lt (pow-lt {j = 32} (omega arith)))

pub returns : goal.returns
returns c = let p : 2 ^ c.args.count ≤ 2 ^ 16 = pow_mono c.requires in
    rw (shifted c.args.count c.requires) (omega (arith, pow_pos c.args.count), first_marks c.args.count)
