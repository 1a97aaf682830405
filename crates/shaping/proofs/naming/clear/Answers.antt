-- `clear` meets its contract: the links of the predicates are filled with 0. Assumes nothing.
use native.Mathlib.Omega.{arith}
use mathlib.Core.Path.{◌≡◌}
use lib.ListN.{length, take, drop, replicate, length-drop}
use Rattle.std.proofs.lemmas.List.{length-take-le}
use Rattle.program.specs.Limits.{max_declared}
use Rattle.directory.specs.Layout.{predicate_shape}
use Rattle.shaping.proofs.ShapeNames.{filled_cleared}
use Rattle.shaping.proofs.naming.clear.Goals as goal

pub returns : goal.returns
returns c = let D = c.args.dir.now in
    let n : length (take max_declared (drop predicate_shape D)) ≡ max_declared = length-take-le max_declared (drop predicate_shape D) (omega (arith, length-drop predicate_shape D)) in
    let e : c.fill.new.self ≡ replicate max_declared 0 = rw n at (c.fill.ensures.after (λ y q. q)) in
    filled_cleared D c.fill.new.self c.requires e
