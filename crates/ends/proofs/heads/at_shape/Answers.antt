-- `at_shape` meets its contract: the new call rows open the body, where there is one, and then marks on the head go to the call rows. Assumes nothing.
use native.Mathlib.Omega.{arith}
use mathlib.Core.Logic.{inr}
use Rattle.rows.proofs.AddedRows.{reached_err}
use Rattle.steps.proofs.Stepping.{stepped_within, stepped_past}
use Rattle.ends.specs.AtHead.{AtShape}
use Rattle.ends.proofs.AtShapes.{shape_in_dir, here_variables, emit_asked, Opened, opened_none, sets_asked, shape_step}
use Rattle.ends.proofs.heads.at_shape.Goals as goal
use Rattle.ends.proofs.heads.at_shape.Goals.{in-Some+in_ok-rows, in_default}

pub overflow_add-s : goal.overflow_add-s
overflow_add-s c = omega (arith, (shape_in_dir c.requires.0).0)

pub offset_bounds-dir-s : goal.offset_bounds-dir-s
offset_bounds-dir-s c = omega (arith, (shape_in_dir c.requires.0).0)

pub bounds-dir-s : goal.bounds-dir-s
bounds-dir-s c = let few = shape_in_dir c.requires.0 in omega (arith, few.0, few.1)

pub emit_shape-requires : goal.emit_shape-requires
emit_shape-requires c = let (asked, writable, behind, size) = c.requires in
    (emit_asked asked (here_variables asked (rw c.from.ensures at c.first_variables-here.ensures)) c.in-Some.is, writable, behind)

pub returns-in_err-rows-clause-stepped : goal.returns-in_err-rows-clause-stepped
returns-in_err-rows-clause-stepped c = λ a.
    rw (reached_err _ _ c.from_residual.ensures.0)
    (inr (stepped_past _ c.args.at.number _ _ _ _ _ _ _ _ ((rw c.in_err-rows.was at c.emit_shape.ensures.stepped) (emit_asked a (here_variables a (rw c.from.ensures at c.first_variables-here.ensures)) c.in-Some.is)) (omega arith)))

pub overflow_add-s-2 : goal.overflow_add-s-2
overflow_add-s-2 c = omega (arith, (shape_in_dir c.requires.0).0)

pub narrow-requires : goal.narrow-requires
narrow-requires c = omega (arith, (shape_in_dir c.requires.0).0)

pub solve_shape-requires : goal.solve_shape-requires
solve_shape-requires c = let opened : (a : AtShape c.args.dir.now c.args.table.now c.args.sets.now c.args.known.words.now c.args.found.words.now c.args.head.now c.args.at.since c.args.at.rows c.args.s c.args.newest c.args.known.below c.args.found.below)
    → Opened a c.args.at.number c.args.at.room c.args.n c.args.buckets.now c.match-head.rows c.match-head.table c.match-head.buckets = λ a. elim c.match-head.branch [
      | in-Some+in_ok-rows z ↦ rw (z.table-is, z.buckets-is, z.rows-is) (stepped_within _ _ _ _ _ _ _ _ _ _
          ((rw z.in_ok-rows.was at z.emit_shape.ensures.stepped) (emit_asked a (here_variables a (rw c.from.ensures at c.first_variables-here.ensures)) z.in-Some.is)) (rw z.in_ok-rows.was at z.emit_shape.ensures.within))
      | in_default z ↦ rw (z.table-is, z.buckets-is, z.rows-is) (opened_none a _ _ _ _ c.requires.1 z.in_default.is)
    ] in
    let (asked, writable, behind, size) = c.requires in
    let g = opened asked in
    (sets_asked asked _ _ _ _ behind g c.narrow.ensures (here_variables asked (rw c.from.ensures at c.first_variables-here.ensures)), g.writable, omega (arith, behind, g.more), size)

pub returns-clause-stepped : goal.returns-clause-stepped
returns-clause-stepped c = let opened : (a : AtShape c.args.dir.now c.args.table.now c.args.sets.now c.args.known.words.now c.args.found.words.now c.args.head.now c.args.at.since c.args.at.rows c.args.s c.args.newest c.args.known.below c.args.found.below)
    → Opened a c.args.at.number c.args.at.room c.args.n c.args.buckets.now c.match-head.rows c.match-head.table c.match-head.buckets = λ a. elim c.match-head.branch [
      | in-Some+in_ok-rows z ↦ rw (z.table-is, z.buckets-is, z.rows-is) (stepped_within _ _ _ _ _ _ _ _ _ _
          ((rw z.in_ok-rows.was at z.emit_shape.ensures.stepped) (emit_asked a (here_variables a (rw c.from.ensures at c.first_variables-here.ensures)) z.in-Some.is)) (rw z.in_ok-rows.was at z.emit_shape.ensures.within))
      | in_default z ↦ rw (z.table-is, z.buckets-is, z.rows-is) (opened_none a _ _ _ _ c.requires.1 z.in_default.is)
    ] in
    λ a.
    let g = opened a in
    shape_step a _ _ _ _ c.requires.2 g (c.solve_shape.ensures.stepped (sets_asked a _ _ _ _ c.requires.2 g c.narrow.ensures (here_variables a (rw c.from.ensures at c.first_variables-here.ensures))))
