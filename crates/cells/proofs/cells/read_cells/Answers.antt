-- `cells::cells::read_cells` meets its contract. The loop's invariant: the line so far stands in the room, and what is left of it decides. Assumes nothing.
use Prim.Native.Nat.{◌+◌}
use mathlib.Core.Path.{refl, ap, ◌∙◌, sym}
use native.Mathlib.Omega.{arith}
use lib.ListN.{length, drop}
use Rattle.std.proofs.Common.{rules}
use Rattle.std.specs.Prelude.{Err}
use Rattle.std.proofs.lemmas.Result.{err_from_is_err_and}
use Rattle.program.specs.Lists.{between}
use Rattle.program.specs.Reply.{number_of}
use Rattle.program.specs.declared.reply.Refusal.{Refusal}
use Rattle.program.specs.declared.reply.Refusal.TheVariants.{Follows, TooSoon}
use Rattle.text.specs.Line.{up_to, tab}
use Rattle.text.proofs.Cuts.{part_within}
use Rattle.cells.specs.Cells.{look_of}
use Rattle.cells.specs.Room.{symbols_in, row_of}
use Rattle.cells.proofs.Readings.{mapped_ok, mapped_err}
use Rattle.cells.proofs.Rows.{begins, rest_over, rest_wrong, said_on, rest_none, taken_wrong, as_wrong, as_right}
use Rattle.cells.proofs.cells.read_cells.Goals as goal

pub loop-at-init : goal.loop-at-init
loop-at-init c = let a = c.args in
    record {
      past = omega arith;
      within = c.requires.1;
      small = omega arith;
      slow = omega arith;
      word_length = refl;
      says = λ ns ws front k w n m. begins (symbols_in a.c ns ws) a.query a.line.now.bytes.now a.from a.line.now.place front a.words.now a.modes.now a.count w n m;
    }

pub returns-then-is_over-clause-by_index : goal.returns-then-is_over-clause-by_index
returns-then-is_over-clause-by_index c = let a = c.args in
    let l = c.loop-at in
    λ ns ws front k w n m. let s = l.invariant.says ns ws front k w n m in as_wrong front l.modes l.words Follows _ _
    (s.rest ∙ rest_over (symbols_in a.c ns ws) a.query a.line.now.bytes.now a.line.now.place l.at (l.at + 1 + length (up_to tab (drop (l.at + 1) a.line.now.bytes.now))) (omega arith) refl
    (row_of l.p s.ms s.out) (sym c.is_over.ensures ∙ c.if-is_over.true))

pub slice_bounds-take-end : goal.slice_bounds-take-end
slice_bounds-take-end c = let a = c.args in
    let w = part_within tab a.line.now.bytes.now (c.loop-at.at + 1) c.find-end.result (omega arith) c.find-end.ensures in
    omega arith

pub returns-in_err-p-clause-by_index : goal.returns-in_err-p-clause-by_index
returns-in_err-p-clause-by_index c = let a = c.args in
    let l = c.loop-at in
    let e = c.find-end.result in
    let back = err_from_is_err_and c.from_residual.result c.from_residual.ensures.1 in
    let mapped = mapped_err _ (λ (refusal : Refusal). record { refusal = refusal; place = a.line.now.place + (l.at + 1) }) (λ refusal fault p. search rules) c.take.result c.map_err.result back.0 c.map_err.ensures.cases (c.in_err-p.was ∙ ap Err (sym back.2)) in
    λ ns ws front k w n m. let s = l.invariant.says ns ws front k w n m in
    let r = row_of l.p s.ms s.out in
    let t = symbols_in a.c ns ws in
    rw (back.1 ∙ ap Err mapped.2) (as_wrong front _ _ mapped.0 (a.line.now.place + (l.at + 1)) _
    (s.rest ∙ rest_wrong t a.query a.line.now.bytes.now a.line.now.place l.at e (omega arith) c.find-end.ensures r (number_of mapped.0) (sym c.is_over.ensures ∙ c.if-is_over.false)
    (taken_wrong front c.take.new.modes c.take.new.words r (look_of t a.query r (between a.line.now.bytes.now (l.at + 1) e)) mapped.0 (a.line.now.place + (l.at + 1))
    (rw mapped.1 at (c.take.ensures.taken_as ns ws s.ms s.out front k s.stands)))))

pub loop-at-preserved : goal.loop-at-preserved
loop-at-preserved c = let a = c.args in
    let l = c.loop-at in
    let e = c.find-end.result in
    let q = c.in_ok-p.p in
    let w = part_within tab a.line.now.bytes.now (l.at + 1) e (omega arith) c.find-end.ensures in
    let taken = mapped_ok _ c.take.result c.map_err.result q c.map_err.ensures.cases c.in_ok-p.was in
    let g = rw taken at c.take.ensures.grows in
    record {
      past = omega (arith, c.find-end.ensures, l.invariant.past);
      within = w;
      small = g.0;
      slow = omega (arith, c.find-end.ensures, l.invariant.slow, g.1);
      word_length = c.take.auto.words ∙ l.invariant.word_length;
      says = λ ns ws front k w n m. let s = l.invariant.says ns ws front k w n m in
          said_on (symbols_in a.c ns ws) a.query a.line.now.bytes.now a.line.now.place front c.take.new.words c.take.new.modes q l.at e
          (omega arith) c.find-end.ensures s (sym c.is_over.ensures ∙ c.if-is_over.false)
          (rw taken at (c.take.ensures.taken_as ns ws s.ms s.out front k s.stands));
    }

pub returns-then-is_complete-clause-by_index : goal.returns-then-is_complete-clause-by_index
returns-then-is_complete-clause-by_index c = let a = c.args in
    let l = c.loop-at in
    let done = sym c.is_complete.ensures ∙ c.if-is_complete.true in λ ns ws front k w n m. let s = l.invariant.says ns ws front k w n m in as_right front l.modes l.words _
    (s.rest ∙ rest_none (symbols_in a.c ns ws) a.query a.line.now.bytes.now a.line.now.place l.at (row_of l.p s.ms s.out) (omega arith) ∙ rw done) s.stands

pub returns-clause-by_index : goal.returns-clause-by_index
returns-clause-by_index c = let a = c.args in
    let l = c.loop-at in
    let done = sym c.is_complete.ensures ∙ c.if-is_complete.false in
    λ ns ws front k w n m. let s = l.invariant.says ns ws front k w n m in as_wrong front l.modes l.words TooSoon _ _
    (s.rest ∙ rest_none (symbols_in a.c ns ws) a.query a.line.now.bytes.now a.line.now.place l.at (row_of l.p s.ms s.out) (omega arith) ∙ rw done)
