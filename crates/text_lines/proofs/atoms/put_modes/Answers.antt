-- `text_lines::atoms::put_modes` meets its contract. The loop's invariant: the modes so far stand behind the words. Assumes nothing.
use Prim.Native.Nat.{ℕ, ◌+◌}
use mathlib.Core.Path.{◌≡◌, ap, ◌∙◌}
use mathlib.Core.List.{List}
use native.Mathlib.Omega.{arith}
use lib.ListN.{set, get_or}
use Rattle.terms.specs.Cells.{variables}
use Rattle.text.proofs.Rooms.{get_d_in_room}
use Rattle.cells.proofs.HeldSymbols.{byte_behind, all_behind}
use Rattle.text_lines.proofs.atoms.put_modes.Goals as goal

pub loop-i-preserved : goal.loop-i-preserved
loop-i-preserved c = let a = c.args in
    let i = c.loop-i.i in (
      c.put.auto.items ∙ c.loop-i.invariant.0,
      λ room xs ms e f g h k. let m : get_or a.modes.now i 0 ≡ get_or ms i 0 = ap (λ (l : List ℕ). get_or l i 0) g ∙ get_d_in_room variables ms i (omega arith) in
          c.put.ensures ∙ ap (set c.loop-i.words (a.at + i)) m
          ∙ byte_behind room xs ms c.loop-i.words a.at i (omega arith) f (c.loop-i.invariant.1 room xs ms e f g h k),
    )

pub returns : goal.returns
returns c = λ room xs ms e f g h k. all_behind room xs ms c.loop-i.words c.loop-i.i (omega (arith, c.requires)) (c.loop-i.invariant.1 room xs ms e f g h k)
