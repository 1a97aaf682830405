-- `are_terms` meets its contract: a cell ends one of the terms that are left, or opens as many as its arity.
use Rattle.std.proofs.Common.{arith, length, ◌<◌, eqb→eq}
use Rattle.std.proofs.Common.{get_or}
use Rattle.unify_main.proofs.AtomRuns.{left_variable, left_function, some_left, few_left, variable_small, function_there, none_left}
use Rattle.unify_main.proofs.atom.are_terms.Goals as goal
use Rattle.unify_main.proofs.atom.are_terms.Goals.{then-left-eq0-via-then-left-eq0, then-left-eq0-via-else-left-eq0+then-run-at, then-cell-lt-FIRST_VARIABLE+in-Some, else-cell-lt-FIRST_VARIABLE+else-cell-ge-AFTER_VARIABLES}

pub returns-then-left-eq0 : goal.returns-then-left-eq0
returns-then-left-eq0 c = let F = c.args.functions.now in
    let R = c.args.run.now in
    let l = c.loop-at in
    let within : l.at < length R = omega arith in (
      λ f. absurd f,
      λ r. elim c.then-left-eq0.branch [
        | then-left-eq0-via-then-left-eq0 w ↦ omega (arith, some_left F R c.args.n l.at l.left within l.invariant r, w.if-left-eq0.true)
        | then-left-eq0-via-else-left-eq0+then-run-at w ↦ omega (arith, few_left F R c.args.n l.at l.left within l.invariant r, w.if-run-at.true)
      ],
    )

pub returns-in_default : goal.returns-in_default
returns-in_default c = let F = c.args.functions.now in
    let R = c.args.run.now in
    let l = c.loop-at in
    let within : l.at < length R = omega arith in (
      λ f. absurd f,
      λ r. let there = function_there F R c.args.n l.at l.left within l.invariant c.if-cell-lt-FIRST_VARIABLE.true r in
          omega (arith, there, c.in_default.ensures.lookup.3, c.from.ensures),
    )

pub returns-then-cell-ge-AFTER_VARIABLES : goal.returns-then-cell-ge-AFTER_VARIABLES
returns-then-cell-ge-AFTER_VARIABLES c = let F = c.args.functions.now in
    let R = c.args.run.now in
    let l = c.loop-at in
    let within : l.at < length R = omega arith in
    (λ f. absurd f, λ r. omega (arith, variable_small F R c.args.n l.at l.left within l.invariant c.if-cell-lt-FIRST_VARIABLE.false r, c.if-cell-ge-AFTER_VARIABLES.true))

pub loop-at-preserved : goal.loop-at-preserved
loop-at-preserved c = let F = c.args.functions.now in
    let R = c.args.run.now in
    let l = c.loop-at in
    let within : l.at < length R = omega arith in
    elim c.if-cell-lt-FIRST_VARIABLE.branch [
      | then-cell-lt-FIRST_VARIABLE+in-Some w ↦
          let found = w.in-Some.ensures.lookup.3 in
          let declared : get_or R l.at 0 < length F = omega (arith, found.0, w.from.ensures) in
          rw (w.left-is, w.from-left.ensures, found.1 0, w.from.ensures)
          (left_function F R c.args.n l.at l.left within l.invariant (omega arith) w.if-cell-lt-FIRST_VARIABLE.true declared)
      | else-cell-lt-FIRST_VARIABLE+else-cell-ge-AFTER_VARIABLES w ↦ rw w.left-is
          (left_variable F R c.args.n l.at l.left within l.invariant (omega arith) w.if-cell-lt-FIRST_VARIABLE.false (omega (arith, w.if-cell-ge-AFTER_VARIABLES.false)))
    ]

pub returns : goal.returns
returns c = let l = c.loop-at in
    let e = none_left c.args.functions.now c.args.run.now c.args.n l.at l.left (omega arith) l.invariant in
    (λ z. e.0 (eqb→eq l.left 0 z), λ r. rw (e.1 r) tt)
