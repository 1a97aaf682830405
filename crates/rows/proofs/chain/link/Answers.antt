-- `link` meets its contract: each turn puts one row more into the chain of its slot. Assumes nothing.
use Rattle.std.proofs.Common.{arith, length, ◌≡◌, ◌∙◌, ◌<◌}
use Rattle.rows.specs.Rows.{slot_at}
use Rattle.rows.proofs.Linking.{linked_more, befores_slot}
use Rattle.rows.proofs.chain.link.Goals as goal

pub loop-r-preserved : goal.loop-r-preserved
loop-r-preserved c = let l = c.loop-r in
    let slot_read : c.from-slot.result ≡ slot_at l.table l.r = c.from-slot.ensures ∙ c.slot_at.ensures in
    let same = befores_slot c.args.from l.r c.args.table.now l.table l.invariant.only_befores l.r in
    let below = c.requires.by_index l.r c.loop-r-test.true in
    let within : slot_at l.table l.r < length l.heads = rw same (omega arith) in
    rw slot_read (linked_more c.args.table.now l.table l.heads c.args.from l.r (omega arith) (omega arith) within l.invariant)

pub returns : goal.returns
returns c = let e : c.loop-r.r ≡ c.args.to = omega (arith, c.requires.from_le_to.0) in rw e at c.loop-r.invariant
