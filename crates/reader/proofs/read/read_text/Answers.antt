-- `reader::read::read_text` meets its contract. Assumes nothing.
use mathlib.Core.Path.{sym, ap, ◌∙◌}
use Rattle.std.specs.Prelude.{Err}
use Rattle.std.proofs.lemmas.Result.{err_from_is_err_and}
use Rattle.program.specs.Limits.{max_bytes}
use Rattle.program.specs.declared.reply.Refusal.TheVariants.{TooLong, NoRoom}
use lib.ListN.{length}
use Rattle.reader.proofs.TextLines.{found_wrong}
use Rattle.reader.proofs.Texts.{answer_long, text_fault, text_counted, text_no_words, text_no_names, text_done}
use Rattle.reader.proofs.read.read_text.Goals as goal

pub returns-then-text-gt-MAX_BYTES : goal.returns-then-text-gt-MAX_BYTES
returns-then-text-gt-MAX_BYTES c = let a = c.args in
    λ e f. found_wrong _ _ (record { refusal = TooLong; place = max_bytes }) _ (answer_long a.text.now a.room.words a.room.names c.if-text-gt-MAX_BYTES.true)

pub returns-in_err-sizes : goal.returns-in_err-sizes
returns-in_err-sizes c = let a = c.args in
    let r = c.read_lines in
    let back = err_from_is_err_and c.from_residual.result c.from_residual.ensures.1 in
    λ e f. rw back.1 (text_fault r.new.symbols.names r.new.words a.text.now a.room.words a.room.names c.if-text-gt-MAX_BYTES.false back.0
    (rw (c.in_err-sizes.was ∙ ap Err (sym back.2)) at (r.ensures e f)))

pub returns-then-sizes-gt-MAX_WORDS : goal.returns-then-sizes-gt-MAX_WORDS
returns-then-sizes-gt-MAX_WORDS c = let a = c.args in
    let r = c.read_lines in
    λ e f. found_wrong _ _ (record { refusal = TooLong; place = length a.text.now }) _
    (text_counted r.new.symbols.names r.new.words a.text.now a.room.words a.room.names c.if-text-gt-MAX_BYTES.false c.in_ok-sizes.sizes (rw c.in_ok-sizes.was at (r.ensures e f)) c.if-sizes-gt-MAX_WORDS.true)

pub returns-then-room-sizes : goal.returns-then-room-sizes
returns-then-room-sizes c = let a = c.args in
    let r = c.read_lines in
    λ e f. found_wrong _ _ (record { refusal = NoRoom; place = a.room.words }) _
    (text_no_words r.new.symbols.names r.new.words a.text.now a.room.words a.room.names c.if-text-gt-MAX_BYTES.false c.in_ok-sizes.sizes (rw c.in_ok-sizes.was at (r.ensures e f))
    c.if-sizes-gt-MAX_WORDS.false c.if-room-sizes.true)

pub returns-then-room-sizes-2 : goal.returns-then-room-sizes-2
returns-then-room-sizes-2 c = let a = c.args in
    let r = c.read_lines in
    λ e f. found_wrong _ _ (record { refusal = NoRoom; place = a.room.names }) _
    (text_no_names r.new.symbols.names r.new.words a.text.now a.room.words a.room.names c.if-text-gt-MAX_BYTES.false c.in_ok-sizes.sizes (rw c.in_ok-sizes.was at (r.ensures e f))
    c.if-sizes-gt-MAX_WORDS.false c.if-room-sizes.false c.if-room-sizes-2.true)

pub returns : goal.returns
returns c = let a = c.args in
    let r = c.read_lines in
    λ e f. text_done r.new.symbols.names r.new.words a.text.now a.room.words a.room.names c.if-text-gt-MAX_BYTES.false c.in_ok-sizes.sizes (rw c.in_ok-sizes.was at (r.ensures e f))
    c.if-sizes-gt-MAX_WORDS.false c.if-room-sizes.false c.if-room-sizes-2.false
