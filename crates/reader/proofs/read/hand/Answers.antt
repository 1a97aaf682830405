-- `hand` meets its contract: each element is one's own, or zero behind them.
use Rattle.std.proofs.Common.{◌++◌, ◌-◌, length, replicate, take, drop}
use mathlib.Core.Path.{refl, sym, ap, ◌∙◌}
use lib.ListN.{set}
use native.Mathlib.Numerals.{add-one}
use Rattle.reader.proofs.Hands.{own_there, own_behind, own_length, hands_one, hands_whole}
use Rattle.reader.proofs.read.hand.Goals as goal
use Rattle.reader.proofs.read.hand.Goals.{then-i-own, else-i-own}

pub loop-i-init : goal.loop-i-init
loop-i-init g c = refl

pub loop-i-preserved : goal.loop-i-preserved
loop-i-preserved g c = let own = c.args.own.now in
    let lent = c.args.lent.now in
    let z = c.args.zero in
    let i = c.loop-i.i in
    let k = length lent - length own in
    let all = own ++ replicate k z in
    let one = hands_one z all lent i (own_length z own (length lent) c.requires) c.loop-i-test.true in
    elim c.if-i-own.branch [
      | then-i-own w ↦ rw (c.loop-i.invariant, add-one, w.lent-is) (ap (set (take i all ++ drop i lent) i) (w.index-own-i.is ∙ own_there z own k i w.index-own-i.result w.if-i-own.true) ∙ one)
      | else-i-own w ↦ rw (c.loop-i.invariant, add-one, w.lent-is) (ap (set (take i all ++ drop i lent) i) (sym (own_behind z own k i w.if-i-own.false)) ∙ one)
    ]

pub returns : goal.returns
returns g c = let own = c.args.own.now in
    let lent = c.args.lent.now in
    let all = own ++ replicate (length lent - length own) c.args.zero in
    let n = own_length c.args.zero own (length lent) c.requires in
    c.loop-i.invariant ∙ hands_whole c.args.zero all lent c.loop-i.i n c.loop-i-test.false
