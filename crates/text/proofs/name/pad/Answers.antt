-- `pad` meets its contract: each byte of the name is put behind those before it, and behind the name nothing is.
use Prim.Native.Nat.{ℕ, ◌<◌}
use mathlib.Core.Path.{◌≡◌, refl, sym, ap, ◌∙◌}
use native.Mathlib.Omega.{arith}
use native.Mathlib.Numerals.{add-one}
use lib.ListN.{length, take, get_or, set}
use lib.Seq.{take_all, take-suc, length-take-le}
use Rattle.text.specs.Name.{padded, name_bytes}
use Rattle.text.proofs.Rooms.{set_behind, in_room_take}
use Rattle.text.proofs.name.pad.Goals as goal

pub loop-i-init : goal.loop-i-init
loop-i-init c = refl

pub returns-then-s-i : goal.returns-then-s-i
returns-then-s-i c = c.loop-i.invariant ∙ ap padded (take_all c.loop-i.i c.args.s.now c.if-s-i.true)

pub loop-i-preserved : goal.loop-i-preserved
loop-i-preserved c = let s = c.args.s.now in
    let i = c.loop-i.i in
    let h : i < length s = omega (arith, c.if-s-i.false) in
    rw (c.loop-i.invariant, add-one, take-suc s i 0 h)
    (ap (λ (k : ℕ). set (padded (take i s)) k (get_or s i 0)) (sym (length-take-le i s (omega arith))) ∙ set_behind name_bytes (take i s) (get_or s i 0))

pub returns : goal.returns
returns c = let e : c.loop-i.i ≡ name_bytes = omega arith in
    c.loop-i.invariant ∙ rw e (in_room_take name_bytes c.args.s.now)
