-- `solve_shape` meets its contract: the marks that are known go to the new call rows, where there are any, and then the others to all. Assumes nothing.
use native.Mathlib.Nat.{le_trans}
use mathlib.Core.Path.{◌≡◌, ◌∙◌}
use lib.ListN.{length}
use Rattle.rows.specs.MaskSet.{set_words}
use Rattle.steps.proofs.Stepping.{stepped_within}
use Rattle.solving.specs.Solving.{SetsAsked}
use Rattle.solving.proofs.SolveSets.{Known, known_none, known_step, found_asked, found_step}
use Rattle.solving.proofs.solve.solve_shape.Goals as goal
use Rattle.solving.proofs.solve.solve_shape.Goals.{then-at-calls+in_ok-rows, else-at-calls}

pub solve_set-requires-2 : goal.solve_set-requires-2
solve_set-requires-2 c = let known : (length c.if-at-calls.solved ≡ set_words)
    × ((a : SetsAsked c.args.table.now c.args.calls.now.sets.now c.args.known.words.now c.args.found.words.now c.args.at.since c.args.at.rows c.args.calls.now.newest c.args.slot c.args.calls.now.here c.args.calls.now.there c.args.known.below c.args.found.below)
    → Known a c.args.at.number c.args.at.room c.args.n c.args.buckets.now c.if-at-calls.rows c.if-at-calls.table c.if-at-calls.buckets) = let (asked, writable, l, size) = c.requires in
    elim c.if-at-calls.branch [
      | then-at-calls+in_ok-rows z ↦ rw (z.table-is, z.buckets-is, z.solved-is, z.rows-is) (
        z.solve_set.auto.solved ∙ size,
        λ a. stepped_within _ _ _ _ _ _ _ _ _ _ (known_step a _ _ _ _ _ _ _ ((rw z.in_ok-rows.was at z.solve_set.ensures.stepped) a.to a.shape_sets a.known_for)) (rw z.in_ok-rows.was at z.solve_set.ensures.within),
      )
      | else-at-calls z ↦ rw (z.table-is, z.buckets-is, z.solved-is, z.rows-is) (size, λ a. known_none a _ _ _ _ writable z.if-at-calls.false)
    ] in
    let (size, grown) = known in
    let asked = c.requires.0 in
    let l = c.requires.2 in
    let g = grown asked in
    (found_asked asked _ _ _ _ l g, g.writable, le_trans l g.more, size)

pub returns-clause-stepped : goal.returns-clause-stepped
returns-clause-stepped c = let known : (length c.if-at-calls.solved ≡ set_words)
    × ((a : SetsAsked c.args.table.now c.args.calls.now.sets.now c.args.known.words.now c.args.found.words.now c.args.at.since c.args.at.rows c.args.calls.now.newest c.args.slot c.args.calls.now.here c.args.calls.now.there c.args.known.below c.args.found.below)
    → Known a c.args.at.number c.args.at.room c.args.n c.args.buckets.now c.if-at-calls.rows c.if-at-calls.table c.if-at-calls.buckets) = let (asked, writable, l, size) = c.requires in
    elim c.if-at-calls.branch [
      | then-at-calls+in_ok-rows z ↦ rw (z.table-is, z.buckets-is, z.solved-is, z.rows-is) (
        z.solve_set.auto.solved ∙ size,
        λ a. stepped_within _ _ _ _ _ _ _ _ _ _ (known_step a _ _ _ _ _ _ _ ((rw z.in_ok-rows.was at z.solve_set.ensures.stepped) a.to a.shape_sets a.known_for)) (rw z.in_ok-rows.was at z.solve_set.ensures.within),
      )
      | else-at-calls z ↦ rw (z.table-is, z.buckets-is, z.solved-is, z.rows-is) (size, λ a. known_none a _ _ _ _ writable z.if-at-calls.false)
    ] in
    λ a.
    let asked = found_asked a _ _ _ _ c.requires.2 ((known).1 a) in
    found_step a _ _ _ _ c.requires.2 ((known).1 a) _ _ _ (c.solve_set-2.ensures.stepped asked.to asked.shape_sets asked.found_for)
