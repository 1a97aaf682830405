-- What is there after a row was added: the store, the rows before it, its key and its words.
use Prim.Native.Nat.{ℕ, ◌+◌, ◌≤◌}
use native.Mathlib.Omega.{arith}
use mathlib.Core.List.{List}
use Rattle.std.proofs.Common.{◌≡◌, refl, Result, Ok, Err, IsErr}
use Rattle.rows.specs.declared.store.NoRoom.{NoRoom}
use Rattle.rows.specs.Store.{Store, reached, Added, there, new, full}

-- an error stands for 1 row more than the room
pub reached_err : (room : ℕ) (r : Result ℕ NoRoom) → IsErr r → reached room r ≡ room + 1
reached_err room (Ok n) h = cc
reached_err room (Err e) h = refl

module _ (table heads : List ℕ) (n room round slot mask r : ℕ) (table' heads' : List ℕ) where
  -- unless there was no room the store holds after
  pub added_store : Added table heads n room round slot mask r table' heads' → Store table heads n → r ≤ room → Store table' heads' r
  added_store (there m e t h) st within = rw (e, t, h) st
  added_store (new o l e g) st within = rw e g.store
  added_store (full o l e t h) st within = absurd (omega arith)
