-- `any_since` meets its contract: none of the shapes passed has a row from `since` on. The measure is how many shapes may be left.
-- Assumes nothing.
use native.Mathlib.Omega.{arith}
use Rattle.steps.proofs.ShapeLinks.{link_below, links_fall, since_goes_on, since_found, since_ends}
use Rattle.steps.proofs.since.any_since.Goals as goal

pub overflow_add-first : goal.overflow_add-first
overflow_add-first c = omega (arith, link_below c.requires.setting (c.loop-link.invariant c.requires.words c.requires.p c.requires.setting).links c.loop-link-test.true, c.requires.slots_there)

pub offset_bounds-heads-first : goal.offset_bounds-heads-first
offset_bounds-heads-first c = omega (arith, link_below c.requires.setting (c.loop-link.invariant c.requires.words c.requires.p c.requires.setting).links c.loop-link-test.true, c.requires.slots_there)

pub bounds-heads-first : goal.bounds-heads-first
bounds-heads-first c = omega (arith, link_below c.requires.setting (c.loop-link.invariant c.requires.words c.requires.p c.requires.setting).links c.loop-link-test.true, c.requires.slots_there)

pub returns-then-since-from : goal.returns-then-since-from
returns-then-since-from c = λ words p S. (λ t. since_found S (c.loop-link.invariant words p S) c.loop-link-test.true (omega (arith, c.if-since-from.true, c.from.ensures)), λ f. tt)

pub overflow_add-s : goal.overflow_add-s
overflow_add-s c = omega (arith, link_below c.requires.setting (c.loop-link.invariant c.requires.words c.requires.p c.requires.setting).links c.loop-link-test.true)

pub offset_bounds-dir-s : goal.offset_bounds-dir-s
offset_bounds-dir-s c = omega (arith, link_below c.requires.setting (c.loop-link.invariant c.requires.words c.requires.p c.requires.setting).links c.loop-link-test.true)

pub bounds-dir-s : goal.bounds-dir-s
bounds-dir-s c = omega (arith, link_below c.requires.setting (c.loop-link.invariant c.requires.words c.requires.p c.requires.setting).links c.loop-link-test.true, c.requires.setting.directory.size)

pub loop-link-smaller : goal.loop-link-smaller
loop-link-smaller c = rw c.from-link-in-loop-link.ensures (links_fall c.requires.setting (c.loop-link.invariant c.requires.words c.requires.p c.requires.setting).links c.loop-link-test.true)

pub loop-link-preserved : goal.loop-link-preserved
loop-link-preserved c = λ words p S. rw c.from-link-in-loop-link.ensures (since_goes_on S (c.loop-link.invariant words p S) c.loop-link-test.true (λ l. omega (arith, l, c.if-since-from.false, c.from.ensures)))

pub returns : goal.returns
returns c = λ words p S. (λ f. absurd f, λ f. absurd (since_ends S (c.loop-link.invariant words p S) c.loop-link-test.false f))
