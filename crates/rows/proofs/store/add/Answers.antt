-- `add` meets its contract: the key was found, or its row is written behind the others, or there is no room for it. Assumes nothing.
use Rattle.rows.proofs.Adding.{row_added}
use Rattle.rows.specs.Store.{new}
use Rattle.rows.specs.Rows.{key_of, keys_of}
use lib.Dec.{T}
use mathlib.Core.List.{Memᴰ}
use mathlib.Core.Path.{refl}
use Prim.Native.Nat.{◌<◌}
use native.Mathlib.Omega.{arith}
use Rattle.rows.proofs.store.add.Goals as goal

pub returns-then-count-room-clause-added : goal.returns-then-count-room-clause-added
returns-then-count-room-clause-added c = let a = c.args in
    let pre = c.requires in
    let more : a.n < a.room = omega (arith, c.if-count-room.true) in
    let fresh : Memᴰ (key_of a.slot a.mask) (keys_of a.table.now a.n) → ⊥ =
    (λ m. let t : T c.holds.result = c.holds.ensures.1 m in rw c.if-holds.false at t) in
    new fresh more refl
    (rw (c.put.ensures, c.bucket-at.ensures.0)
    (row_added a.table.now a.heads.now a.n a.room a.round a.slot a.mask pre.store more pre.n_le_room.1 pre.n_le_room.2 pre.n_le_room.3 c.ranges.mask.fits fresh))
