-- `reader::lines::read_lines` meets its contract. The loop's invariant: the text so far stands in the room, and what is left of it decides. Assumes nothing.
use Prim.Native.Nat.{◌+◌}
use mathlib.Core.Path.{sym, ap, ◌∙◌}
use native.Mathlib.Omega.{arith}
use Rattle.std.specs.Prelude.{Ok, Err}
use Rattle.std.proofs.lemmas.Result.{err_from_is_err_and}
use Rattle.program.specs.Reply.{number_of}
use Rattle.program.specs.declared.reply.Refusal.TheVariants.{TooSoon, Follows}
use Rattle.program.specs.Lists.{between}
use Rattle.text.specs.Line.{parts, tab}
use Rattle.text_lines.specs.Lines.{fields_of}
use Rattle.declarations.specs.Held.{text_so_far}
use Rattle.reader.proofs.TextLines.{line_length, text_none, text_wrong, text_more, text_last, text_follows, lined_is_wrong, lined_is_more, lined_is_last, found_wrong, found_right}
use Rattle.reader.proofs.all_lines.read_lines.Goals as goal

pub returns-then-text-end : goal.returns-then-text-end
returns-then-text-end c = let a = c.args in
    let l = c.loop-c in
    λ e f. let s = l.invariant.says e f in found_wrong l.symbols.names l.words (record { refusal = TooSoon; place = c.find-end.result }) _
    (s.rest ∙ text_none a.text.now l.at c.find-end.result l.invariant.within c.find-end.ensures (text_so_far l.c s.ns s.ws) c.if-text-end.true)

pub returns-in_err-next : goal.returns-in_err-next
returns-in_err-next c = let a = c.args in
    let l = c.loop-c in
    let r = c.read_line in
    let line = between a.text.now l.at c.find-end.result in
    let back = err_from_is_err_and c.from_residual.result c.from_residual.ensures.1 in
    λ e f. let s = l.invariant.says e f in
    let t = text_so_far l.c s.ns s.ws in
    rw back.1 (found_wrong _ _ back.0 _ (s.rest ∙ text_wrong a.text.now l.at c.find-end.result l.invariant.within c.find-end.ensures c.if-text-end.false t (number_of back.0.refusal) back.0.place
    (lined_is_wrong r.new.symbols r.new.words (fields_of t l.at (parts tab line)) back.0
    (rw (c.in_err-next.was ∙ ap Err (sym back.2)) at (r.ensures.by_index s.ns s.ws s.holds)))))

pub loop-c-preserved : goal.loop-c-preserved
loop-c-preserved c = let a = c.args in
    let l = c.loop-c in
    let r = c.read_line in
    let line = between a.text.now l.at c.find-end.result in
    let w = line_length a.text.now l.at c.find-end.result l.invariant.within c.find-end.ensures in
    let g = rw (c.in_ok-next.was ∙ ap Ok c.in-More.is) at r.ensures.goes in
    record {
      within = omega (arith, c.if-text-end.false);
      slow = omega (arith, g.1, w, l.invariant.slow, c.find-end.ensures);
      limited = g.0;
      word_length = r.auto.words ∙ l.invariant.word_length;
      says = λ e f. let s = l.invariant.says e f in
          let t = text_so_far l.c s.ns s.ws in
          let q = lined_is_more r.new.symbols r.new.words (fields_of t l.at (parts tab line)) c.in-More.next
          (rw (c.in_ok-next.was ∙ ap Ok c.in-More.is) at (r.ensures.by_index s.ns s.ws s.holds)) in
          record {
            ns = q.ns;
            ws = q.ws;
            holds = q.holds;
            rest = s.rest ∙ text_more a.text.now l.at c.find-end.result l.invariant.within c.find-end.ensures c.if-text-end.false t (text_so_far c.in-More.next q.ns q.ws) q.is;
          };
    }

pub returns-then-end-text : goal.returns-then-end-text
returns-then-end-text c = let a = c.args in
    let l = c.loop-c in
    let r = c.read_line in
    let line = between a.text.now l.at c.find-end.result in
    λ e f. let s = l.invariant.says e f in
    let t = text_so_far l.c s.ns s.ws in
    let q = lined_is_last r.new.symbols r.new.words (fields_of t l.at (parts tab line)) c.in-Last.sizes
    (rw (c.in_ok-next.was ∙ ap Ok c.in-Last.is) at (r.ensures.by_index s.ns s.ws s.holds)) in
    found_wrong _ _ (record { refusal = Follows; place = c.find-end.result + 1 }) _ (s.rest ∙ text_follows a.text.now l.at c.find-end.result l.invariant.within c.find-end.ensures c.if-text-end.false t q.scenario q.is c.if-end-text.true)

pub returns-in-Last : goal.returns-in-Last
returns-in-Last c = let a = c.args in
    let l = c.loop-c in
    let r = c.read_line in
    let line = between a.text.now l.at c.find-end.result in
    λ e f. let s = l.invariant.says e f in
    let t = text_so_far l.c s.ns s.ws in
    let q = lined_is_last r.new.symbols r.new.words (fields_of t l.at (parts tab line)) c.in-Last.sizes
    (rw (c.in_ok-next.was ∙ ap Ok c.in-Last.is) at (r.ensures.by_index s.ns s.ws s.holds)) in
    found_right _ _ (fields_of t l.at (parts tab line)) _ _ q (s.rest ∙ text_last a.text.now l.at c.find-end.result l.invariant.within c.find-end.ensures c.if-text-end.false t q.scenario q.is c.if-end-text.false)
