-- `solve_marks` meets its contract. The invariant: the marks below q in the set were passed to the shape, and what was passed is in the set `solved`
-- beside the unions of marks, where the shape has fewer than sixteen variables. The measure is how many are left. Assumes nothing.
use Prim.Native.Nat.{◌+◌}
use native.Mathlib.Omega.{arith}
use mathlib.Core.Path.{◌≡◌, ◌∙◌}
use lib.ListN.{length}
use Rattle.rows.proofs.AddedRows.{reached_err}
use Rattle.rows.specs.MaskSet.{set_words, InSet}
use Rattle.solving.specs.Solving.{ToShape, ShapeSets, FoundFor}
use Rattle.solving.proofs.SolveShape.{set_passes, Through, through_begins, through_past, through_none, through_again, calls_asked, through_full, through_on}
use Rattle.solving.proofs.solve.solve_marks.Goals as goal
use Rattle.solving.proofs.solve.solve_marks.Goals.{then-contains+then-first_passed+in_ok-rows, then-contains+else-first_passed, else-contains}

pub loop-q-init : goal.loop-q-init
loop-q-init c = let (asked, writable, l, size, none) = c.requires in
    (size, λ w unified set. through_begins w _ unified.shape_variables _ c.args.found.words.now _ _ _ _ _ writable none)

pub solve_calls-requires : goal.solve_calls-requires
solve_calls-requires c = let (asked, writable, l, size, none) = c.requires in
    let t = c.loop-q.invariant.1 asked.to asked.shape_sets asked.found_for in
    let in_set_law = c.contains.ensures.0 (rw c.if-contains.true tt) in
    let passes = set_passes asked.to asked.shape_sets asked.found_for _ _ _ _ c.narrow.ensures in_set_law c.narrow-then-contains.ensures c.pass_on-r.ensures in (
      calls_asked asked.to _ asked.shape_sets.shape_variables _ _ _ _ _ _ _ _ _ _ _ t _ _ _ (rw c.narrow.ensures at in_set_law) passes c.first_passed.ensures l,
      t.grew.writable,
      omega (arith, l, t.grew.more),
      c.first_passed.auto.solved ∙ c.loop-q.invariant.0,
    )

pub returns-in_err-rows-clause-stepped : goal.returns-in_err-rows-clause-stepped
returns-in_err-rows-clause-stepped c = λ w unified set.
    let l = c.requires.2 in
    let in_set_law = c.contains.ensures.0 (rw c.if-contains.true tt) in
    let passes = set_passes w unified set _ _ _ _ c.narrow.ensures in_set_law c.narrow-then-contains.ensures c.pass_on-r.ensures in
    let t = c.loop-q.invariant.1 w unified set in
    let asked = calls_asked w _ unified.shape_variables _ _ _ _ _ _ _ _ _ _ _ t _ _ _ (rw c.narrow.ensures at in_set_law) passes c.first_passed.ensures l in
    rw (reached_err _ _ c.from_residual.ensures.0)
    (through_full w _ unified.shape_variables _ _ _ _ _ _ _ _ _ _ _ t _ _ _ (rw c.narrow.ensures at in_set_law) passes c.first_passed.ensures l _ _ _ c.solve_calls.new.solved ((rw c.in_err-rows.was at c.solve_calls.ensures.stepped) asked) (omega arith))

pub loop-q-preserved : goal.loop-q-preserved
loop-q-preserved c = let passed_on : (length c.if-contains.solved ≡ set_words)
    × ((w : ToShape c.args.table.now c.args.at.since c.args.at.rows c.args.calls.now.newest c.args.slot) → ShapeSets w.S w.c.head c.args.calls.now.sets.now c.args.calls.now.here c.args.calls.now.there → FoundFor w c.args.found.words.now c.args.found.below
    → Through w c.args.calls.now.here c.args.from c.args.found.words.now c.args.at.number c.args.at.room c.args.n c.args.buckets.now (c.loop-q.q + 1) c.if-contains.rows c.if-contains.table c.if-contains.buckets c.if-contains.solved) = let (asked, writable, l, size, none) = c.requires in
    elim c.if-contains.branch [
      | then-contains+then-first_passed+in_ok-rows z ↦
          let in_set_law = c.contains.ensures.0 (rw z.if-contains.true tt) in
          rw (z.table-is, z.buckets-is, z.solved-is, z.rows-is) (
            z.solve_calls.auto.solved ∙ z.first_passed.auto.solved ∙ c.loop-q.invariant.0,
            λ w unified set.
                let t = c.loop-q.invariant.1 w unified set in
                let passes = set_passes w unified set _ _ _ _ c.narrow.ensures in_set_law z.narrow-then-contains.ensures z.pass_on-r.ensures in
                let asked' = calls_asked w _ unified.shape_variables _ _ _ _ _ _ _ _ _ _ _ t _ _ _ (rw c.narrow.ensures at in_set_law) passes z.first_passed.ensures l in
                through_on w _ unified.shape_variables _ _ _ _ _ _ _ _ _ _ _ t _ _ _ (rw c.narrow.ensures at in_set_law) passes z.first_passed.ensures l _ _ _ _ ((rw z.in_ok-rows.was at z.solve_calls.ensures.stepped) asked') (z.solve_calls.ensures.put asked') asked.from_within (rw z.in_ok-rows.was at z.solve_calls.ensures.within),
          )
      | then-contains+else-first_passed z ↦
          let in_set_law = c.contains.ensures.0 (rw z.if-contains.true tt) in
          rw (z.table-is, z.buckets-is, z.solved-is, z.rows-is) (
            z.first_passed.auto.solved ∙ c.loop-q.invariant.0,
            λ w unified set.
                let passes = set_passes w unified set _ _ _ _ c.narrow.ensures in_set_law z.narrow-then-contains.ensures z.pass_on-r.ensures in
                through_again w _ unified.shape_variables _ _ _ _ _ _ _ _ _ _ _ (c.loop-q.invariant.1 w unified set) _ _ _ (rw c.narrow.ensures at in_set_law) passes z.first_passed.ensures (λ f. rw z.if-first_passed.false at f),
          )
      | else-contains z ↦ rw (z.table-is, z.buckets-is, z.solved-is, z.rows-is) (
        c.loop-q.invariant.0,
        λ w unified set.
            let out : InSet c.args.found.words.now c.loop-q.q → ⊥ = λ i. rw z.if-contains.false at (c.contains.ensures.1 (rw c.narrow.ensures i)) in
            through_past w _ unified.shape_variables _ _ _ _ _ _ _ _ _ _ _ (c.loop-q.invariant.1 w unified set) out,
      )
    ]
    in
    let (size, through) = passed_on in
    (size, λ w unified set. through_none w _ unified.shape_variables _ _ _ _ _ _ _ _ _ _ _ (through w unified set) _ (omega (arith, c.next_mark-q.ensures.0)) (λ m a. c.next_mark-q.ensures.2 m (omega arith)))

pub returns-clause-within : goal.returns-clause-within
returns-clause-within c = let asked = c.requires.0 in (c.loop-q.invariant.1 asked.to asked.shape_sets asked.found_for).grew.writable.within
