-- `text::cut::find` meets its contract. Assumes nothing.
use Prim.Native.Nat.{◌+◌, ◌-◌, ◌≤◌}
use mathlib.Core.Path.{◌≡◌, ap, ◌∙◌}
use native.Mathlib.Omega.{arith}
use lib.ListN.{length, take, drop, length-drop}
use lib.Seq.{take_all}
use lib.Dec.{eqb}
use Rattle.std.specs.List.{position}
use Rattle.text.proofs.Cuts.{up_to_found}
use Rattle.text.proofs.cut.find.Goals as goal

pub returns : goal.returns
returns c = let s = c.args.s.now in
    let n = length s - c.args.from in
    let whole : length (drop c.args.from s) ≤ n = simp length-drop (omega arith) in
    let found : c.first_place.result ≡ position (λ x. eqb x c.args.b) (take n (drop c.args.from s)) = c.first_place.ensures in
    ap (λ m. c.args.from + m) (c.unwrap_or.ensures ∙ rw (found, take_all n (drop c.args.from s) whole) (up_to_found c.args.b (drop c.args.from s)))
