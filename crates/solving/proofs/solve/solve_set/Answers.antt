-- `solve_set` meets its contract: the set is empty as far as marks of the shape's variables go, and those that were passed to it. Assumes nothing.
use Prim.Native.Nat.{ℕ, ◌+◌, ◌-◌, ◌/◌, ◌<◌}
use native.Mathlib.Omega.{arith}
use borrow.Rule.Slice.PartMut.{same_len_mid}
use mathlib.Core.Path.{◌≡◌, ◌∙◌}
use lib.ListN.{length}
use Rattle.rows.specs.MaskSet.{set_words}
use Rattle.solving.specs.SolvedSets.{NoneSolved}
use Rattle.solving.proofs.ClearedSets.{passed_words, none_solved_all, none_solved_fewer}
use Rattle.solving.proofs.solve.solve_set.Goals as goal
use Rattle.solving.proofs.solve.solve_set.Goals.{else-calls-lt-PASSED, then-calls-lt-PASSED}

pub solve_marks-requires : goal.solve_marks-requires
solve_marks-requires c = let cleared : (length c.if-calls-lt-PASSED.solved ≡ set_words) × NoneSolved c.if-calls-lt-PASSED.solved c.args.calls.now.here = let size = c.clear.auto.words ∙ c.requires.3 in
    let enough : c.args.calls.now.here / 16 < c.from.result / 16 + 1 = omega (arith, c.from.ensures) in
    (elim c.if-calls-lt-PASSED.branch [ then-calls-lt-PASSED z ↦ rw z.solved-is (same_len_mid {X = ℕ} passed_words (length c.clear.new.words - passed_words) c.clear.new.words z.clear-then-calls-lt-PASSED.new.words z.clear-then-calls-lt-PASSED.auto.words ∙ size, none_solved_fewer _ _ _ _ enough c.clear.ensures size _ z.clear-then-calls-lt-PASSED.ensures z.if-calls-lt-PASSED.true) | else-calls-lt-PASSED z ↦ rw z.solved-is (size, none_solved_all _ _ _ _ enough c.clear.ensures z.if-calls-lt-PASSED.false) ]) in
    let (asked, writable, l, size) = c.requires in
    (asked, writable, l, (cleared).0, (cleared).1)
