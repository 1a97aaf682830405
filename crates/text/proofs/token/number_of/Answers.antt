-- `text::token::number_of` meets its contract: each test is the definition's. Assumes nothing.
use Prim.Native.Nat.{◌<◌, ◌-◌, ◌≤◌}
use mathlib.Core.Path.{sym, ◌∙◌, ap}
use native.Mathlib.Omega.{arith}
use lib.ListN.{length, take, drop, length-drop}
use lib.Seq.{take_all}
use Rattle.std.specs.Prelude.{Some}
use borrow.Author.Tests.{not-false}
use Rattle.text.specs.Token.{every, is_digit}
use mathlib.Core.Path.{◌≡◌}
use mathlib.Core.Bool.{true}
use Rattle.text.proofs.Tokens.{is_number_of}
use Rattle.text.proofs.token.number_of.Goals as goal

pub returns : goal.returns
returns c = let a = c.args in
    let d = drop a.from a.s.now in
    let h : 0 < length d = simp length-drop (omega arith) in
    let all : length d ≤ length a.s.now - a.from = simp length-drop (omega arith) in
    let is : take (length a.s.now - a.from) d ≡ d = take_all (length a.s.now - a.from) d all in
    let digits : every is_digit d ≡ true = rw is at (sym c.all_digits.ensures ∙ not-false _ c.if-not-all_digits.false-raw) in
    rw (is_number_of d h, sym c.zero_first.ensures ∙ c.if-zero_first.false, digits) (ap Some (rw is at c.value.ensures))
