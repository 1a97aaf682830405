-- `declarations::symbol::put_name` meets its contract. Assumes nothing.
use Prim.Native.Nat.{◌+◌, ◌-◌}
use mathlib.Core.Path.{◌≡◌, ap}
use mathlib.Core.List.{List}
use native.Mathlib.Omega.{arith}
use lib.ListN.{length}
use Rattle.text.proofs.Rooms.{length_in_room}
use Rattle.declarations.proofs.Symbols.{written_behind}
use Rattle.declarations.proofs.symbol.put_name.Goals as goal

pub returns : goal.returns
returns c = let a = c.args in
    λ room ns e f. let count : a.at + 16 - a.at ≡ length a.key.now = omega arith in
    let size = ap (λ (l : List _). length l) e in
    rw (count, c.copy_from_slice.ensures.after, e, f) (written_behind room ns a.key.now (omega (arith, size, length_in_room room ns)))
