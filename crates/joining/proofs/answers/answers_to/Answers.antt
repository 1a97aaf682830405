-- `answers_to` meets its contract: the answers of the predicate's shapes that are passed stand in the list. The measure is how many shapes may be left.
-- Assumes nothing.
use native.Mathlib.Omega.{arith}
use mathlib.Core.Path.{ap}
use Rattle.directory.specs.Layout.{shape_next}
use Rattle.table.specs.Keys.{first_solution}
use Rattle.steps.proofs.BodyAtoms.{number_below}
use Rattle.steps.proofs.ShapeLinks.{predicate_below}
use Rattle.joining.proofs.Offsets.{offset_fits, offset_bytes_fit, offset_within}
use Rattle.joining.proofs.AnswersOfShapes.{shaped_as, declared, cells_some, cells_fit, argument_cells, atom_variables, shaped_begins, shape_few, shaped_falls, slot_there, met_asked, none_newer, shaped_met, shaped_goes_on, shaped_ends}
use Rattle.joining.proofs.answers.answers_to.Goals as goal
use Rattle.joining.proofs.answers.answers_to.Goals.{then-from-newest, else-from-newest}

pub body_span-atom-requires : goal.body_span-atom-requires
body_span-atom-requires c = let setting = c.requires.situation.setting in (number_below setting c.requires.body, setting.directory.size)

pub slice_bounds-variables_of-count : goal.slice_bounds-variables_of-count
slice_bounds-variables_of-count c = omega (arith, cells_some c.requires.situation c.requires.body, c.body_span-atom.ensures.there.1)

pub slice_bounds-variables_of-start : goal.slice_bounds-variables_of-start
slice_bounds-variables_of-start c = omega (arith, cells_some c.requires.situation c.requires.body, c.body_span-atom.ensures.there.1)

pub slice_bounds-variables_of-end : goal.slice_bounds-variables_of-end
slice_bounds-variables_of-end c = omega (arith, cells_fit c.requires.situation c.requires.body, c.body_span-atom.ensures.there.0, c.body_span-atom.ensures.there.1)

pub variables_of-there-requires : goal.variables_of-there-requires
variables_of-there-requires c = rw (c.body_span-atom.ensures.there.0, c.body_span-atom.ensures.there.1) (argument_cells c.requires.situation c.requires.body)

pub bounds-words-atom : goal.bounds-words-atom
bounds-words-atom c = let W = c.requires.situation in
    let B = c.requires.body in
    omega (arith, cells_some W B, cells_fit W B, c.body_span-atom.ensures.there.0)

pub bounds-dir-from : goal.bounds-dir-from
bounds-dir-from c = let W = c.requires.situation in
    rw (c.from.ensures, c.body_span-atom.ensures.there.0) (predicate_below W.setting _ (declared W c.requires.body))

pub loop-link-init : goal.loop-link-init
loop-link-init c = λ w b. shaped_begins w b c.from-link.ensures c.from.ensures c.body_span-atom.ensures.there.0 c.requires.listing

pub overflow_add-s : goal.overflow_add-s
overflow_add-s c = let W = c.requires.situation in
    let B = c.requires.body in
    offset_fits first_solution (shape_few W B (c.loop-link.invariant W B) c.loop-link-test.true) tt

pub offset_bounds-standing-s : goal.offset_bounds-standing-s
offset_bounds-standing-s c = let W = c.requires.situation in
    let B = c.requires.body in
    offset_bytes_fit first_solution (shape_few W B (c.loop-link.invariant W B) c.loop-link-test.true) tt

pub bounds-standing-s : goal.bounds-standing-s
bounds-standing-s c = let W = c.requires.situation in
    let B = c.requires.body in
    slot_there W B (c.loop-link.invariant W B) c.loop-link-test.true

pub of_met-sides-requires : goal.of_met-sides-requires
of_met-sides-requires c = let W = c.requires.situation in
    let B = c.requires.body in
    let start_is = c.body_span-atom.ensures.there.0 in
    let cells_is = c.body_span-atom.ensures.there.1 in
    met_asked W B (c.loop-link.invariant W B) c.loop-link-test.true c.from-newest.ensures start_is cells_is (atom_variables W B start_is cells_is c.variables_of-there.result c.variables_of-there.ensures)

pub overflow_add-s-in-loop-link : goal.overflow_add-s-in-loop-link
overflow_add-s-in-loop-link c = let W = c.requires.situation in
    let B = c.requires.body in
    offset_fits shape_next (shape_few W B (c.loop-link.invariant W B) c.loop-link-test.true) tt

pub offset_bounds-dir-s : goal.offset_bounds-dir-s
offset_bounds-dir-s c = let W = c.requires.situation in
    let B = c.requires.body in
    offset_bytes_fit shape_next (shape_few W B (c.loop-link.invariant W B) c.loop-link-test.true) tt

pub bounds-dir-s : goal.bounds-dir-s
bounds-dir-s c = let W = c.requires.situation in
    let B = c.requires.body in
    offset_within shape_next (shape_few W B (c.loop-link.invariant W B) c.loop-link-test.true) W.setting.directory.size tt

pub loop-link-smaller : goal.loop-link-smaller
loop-link-smaller c = let W = c.requires.situation in
    let B = c.requires.body in
    shaped_falls W B (c.loop-link.invariant W B) c.loop-link-test.true c.from-link-in-loop-link.ensures

pub loop-link-preserved : goal.loop-link-preserved
loop-link-preserved c = let newest_is = c.from-newest.ensures in
    let next_is = c.from-link-in-loop-link.ensures in
    let start_is = c.body_span-atom.ensures.there.0 in
    let cells_is = c.body_span-atom.ensures.there.1 in
    let more = c.loop-link-test.true in
    λ w b. elim c.if-from-newest.branch [
      | then-from-newest v ↦ shaped_as next_is v.seen-is v.answers-is (ap (λ x. x.fresh) v.sides-is) (ap (λ x. x.older) v.sides-is) (shaped_met w b (c.loop-link.invariant w b) more newest_is start_is cells_is
          (atom_variables w b start_is cells_is c.variables_of-there.result c.variables_of-there.ensures) v.of_met-sides.ensures)
      | else-from-newest v ↦ shaped_as next_is v.seen-is v.answers-is (ap (λ x. x.fresh) v.sides-is) (ap (λ x. x.older) v.sides-is) (shaped_goes_on w b (c.loop-link.invariant w b) more
          (none_newer w b (c.loop-link.invariant w b) more (rw newest_is at v.if-from-newest.false)))
    ]

pub returns : goal.returns
returns c = λ w b. shaped_ends w b c.requires.ordered (c.loop-link.invariant w b) c.loop-link-test.false
