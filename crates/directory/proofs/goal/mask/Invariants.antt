-- `mask` meets its contract. The invariant: the mask is that of the modes passed, which are the last ones. Assumes nothing.
use Prim.Native.Nat.{◌-◌, ◌≤◌}
use mathlib.Core.Path.{◌≡◌}
use lib.ListN.{length, drop}
use Rattle.program.specs.Faults.{mask_of}
use Rattle.directory.proofs.goal.mask.Given as goal

abbrev pub invariant-loop-mode : goal.invariant-loop-mode
invariant-loop-mode l = (length l.yielded ≤ length l.modes) × (l.mask ≡ mask_of (drop (length l.modes - length l.yielded) l.modes))
