-- `text::name::find_name` meets its contract. The loop's invariant: what is left to seek from `i` is what was to be sought from `from`. Assumes nothing.
use mathlib.Core.Path.{sym, ◌∙◌}
use native.Mathlib.Omega.{arith}
use native.Mathlib.Numerals.{add-one}
use Rattle.text.proofs.Names.{seek_here, seek_past}
use Rattle.text.proofs.name.find_name.Goals as goal

pub loop-i-preserved : goal.loop-i-preserved
loop-i-preserved c = let a = c.args in
    λ m. rw add-one (c.loop-i.invariant m ∙ seek_past a.names.now a.key.now c.loop-i.i a.to c.loop-i-test.true (sym (c.is_at.ensures (m c.loop-i.i (omega arith) c.loop-i-test.true) c.hash_of-hash.ensures) ∙ c.if-is_at.false))

pub returns-then-is_at-clause-value : goal.returns-then-is_at-clause-value
returns-then-is_at-clause-value c = let a = c.args in
    λ m. sym (c.loop-i.invariant m ∙ seek_here a.names.now a.key.now c.loop-i.i a.to c.loop-i-test.true (sym (c.is_at.ensures (m c.loop-i.i (omega arith) c.loop-i-test.true) c.hash_of-hash.ensures) ∙ c.if-is_at.true))
