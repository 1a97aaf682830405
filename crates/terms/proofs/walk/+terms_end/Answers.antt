-- `terms_end` meets its contract: a cell ends one of the terms that are left, or opens as many as its arity. The measure is the run's length.
-- Assumes nothing.
use Prim.Native.Nat.{ℕ, ◌+◌, ◌-◌}
use mathlib.Core.Path.{◌≡◌, ap, ◌∙◌}
use native.Mathlib.Omega.{arith}
use native.Mathlib.Nat.{add-zero}
use lib.ListN.{length, drop, length-take, length-drop}
use Rattle.terms.specs.Walk.{cells_of}
use Rattle.terms.proofs.Steps.{behind, run_cell, run_many, run_within, function_declared, function_run, variable_run, function_cells, variable_cells}
use Rattle.terms.proofs.walk.+terms_end.Goals as goal
use Rattle.terms.proofs.walk.+terms_end.Goals.{then-cell-lt-FIRST_VARIABLE, else-cell-lt-FIRST_VARIABLE}

pub bounds-run-0 : goal.bounds-run-0
bounds-run-0 t c = let F = c.args.functions.now in let R = c.args.run.now in let n = c.args.n in
    run_cell F R n c.if-n-eq0.false c.requires

pub bounds-functions-from : goal.bounds-functions-from
bounds-functions-from t c = let F = c.args.functions.now in let R = c.args.run.now in
    let n = c.args.n in
    rw c.from.ensures (function_declared F R n c.if-n-eq0.false c.requires c.if-cell-lt-FIRST_VARIABLE.true)

pub slice_bounds-terms_end-count : goal.slice_bounds-terms_end-count
slice_bounds-terms_end-count t c = let F = c.args.functions.now in let R = c.args.run.now in
    let n = c.args.n in
    run_cell F R n c.if-n-eq0.false c.requires

pub slice_bounds-terms_end-start : goal.slice_bounds-terms_end-start
slice_bounds-terms_end-start t c = let F = c.args.functions.now in let R = c.args.run.now in
    let n = c.args.n in
    run_cell F R n c.if-n-eq0.false c.requires

pub overflow_add-n : goal.overflow_add-n
overflow_add-n t c = let F = c.args.functions.now in let R = c.args.run.now in
    let n = c.args.n in
    elim c.if-cell-lt-FIRST_VARIABLE.branch [
      | then-cell-lt-FIRST_VARIABLE w ↦ rw (w.opened-is, w.from-opened.ensures, w.from.ensures)
          (omega (
            arith,
            run_many F (behind R) _ (function_run F R n c.if-n-eq0.false c.requires w.if-cell-lt-FIRST_VARIABLE.true),
            length-take (length R - 1) (drop 1 R),
            length-drop 1 R,
            c.well_formed.0,
          ))
      | else-cell-lt-FIRST_VARIABLE w ↦ rw w.opened-is (omega (arith, run_many F R n c.requires, c.well_formed.0))
    ]

pub terms_end-requires : goal.terms_end-requires
terms_end-requires t c = let F = c.args.functions.now in
    let R = c.args.run.now in let n = c.args.n in (
      rw (← c.decreases, length-take, length-drop) (omega (arith, run_cell F R n c.if-n-eq0.false c.requires)),
      elim c.if-cell-lt-FIRST_VARIABLE.branch [
        | then-cell-lt-FIRST_VARIABLE w ↦ rw (w.opened-is, w.from-opened.ensures, w.from.ensures) (function_run F R n c.if-n-eq0.false c.requires w.if-cell-lt-FIRST_VARIABLE.true)
        | else-cell-lt-FIRST_VARIABLE w ↦ rw (w.opened-is, add-zero) (variable_run F R n c.if-n-eq0.false c.requires w.if-cell-lt-FIRST_VARIABLE.false)
      ],
    )

pub overflow_add-result : goal.overflow_add-result
overflow_add-result t c = let F = c.args.functions.now in
    let R = c.args.run.now in let n = c.args.n in
    let e : 1 + c.terms_end.result ≡ cells_of F R n = elim c.if-cell-lt-FIRST_VARIABLE.branch [
      | then-cell-lt-FIRST_VARIABLE w ↦ ap (λ (k : ℕ). 1 + k) c.terms_end.ensures
          ∙ rw (w.opened-is, w.from-opened.ensures, w.from.ensures) (function_cells F R n c.if-n-eq0.false c.requires w.if-cell-lt-FIRST_VARIABLE.true)
      | else-cell-lt-FIRST_VARIABLE w ↦ ap (λ (k : ℕ). 1 + k) c.terms_end.ensures
          ∙ rw (w.opened-is, add-zero) (variable_cells F R n c.if-n-eq0.false c.requires w.if-cell-lt-FIRST_VARIABLE.false)
    ] in
    omega (arith, run_within F R n c.requires, c.well_formed.0)

pub returns : goal.returns
returns t c = let F = c.args.functions.now in
    let R = c.args.run.now in let n = c.args.n in
    elim c.if-cell-lt-FIRST_VARIABLE.branch [
      | then-cell-lt-FIRST_VARIABLE w ↦ ap (λ (k : ℕ). 1 + k) c.terms_end.ensures
          ∙ rw (w.opened-is, w.from-opened.ensures, w.from.ensures) (function_cells F R n c.if-n-eq0.false c.requires w.if-cell-lt-FIRST_VARIABLE.true)
      | else-cell-lt-FIRST_VARIABLE w ↦ ap (λ (k : ℕ). 1 + k) c.terms_end.ensures
          ∙ rw (w.opened-is, add-zero) (variable_cells F R n c.if-n-eq0.false c.requires w.if-cell-lt-FIRST_VARIABLE.false)
    ]
