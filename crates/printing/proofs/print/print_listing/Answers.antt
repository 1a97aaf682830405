-- `printing::print::print_listing` meets its contract: what the lister promises is shown, its listing or its refusal. Assumes nothing.
use Prim.Native.Nat.{ℕ}
use mathlib.Core.Path.{refl}
use native.Mathlib.Omega.{arith}
use Rattle.program.proofs.Checks.{numbered}
use Rattle.printing.specs.Printed.{table_room}
use lib.ListN.{length-replicate}
use Rattle.printing.proofs.Listings.{count_fits, listing_shown, refusal_shown}
use Rattle.printing.proofs.print.print_listing.Goals as goal

pub returns-in-Ok : goal.returns-in-Ok
returns-in-Ok c = let l = rw (c.requires, length-replicate {A = ℕ} table_room 0) at c.in-Ok.ensures in
    (count_fits l, listing_shown l refl)

pub returns-in-Err : goal.returns-in-Err
returns-in-Err c = let l = rw (c.requires, length-replicate {A = ℕ} table_room 0) at c.in-Err.ensures in
    (c.refuse.ensures.0, refusal_shown l (λ z. omega (arith, numbered c.in-Err.fault.refusal)) c.refuse.ensures.1)
