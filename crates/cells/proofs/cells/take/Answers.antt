-- `cells::cells::take` meets its contract: each answer of a look is the definition's, and its cell is written behind the words. Assumes nothing.
use mathlib.Core.Path.{◌∙◌, ap, sym}
use Rattle.std.specs.Prelude.{Ok, Err}
use Rattle.std.proofs.lemmas.Result.{err_from_is_err_and}
use Rattle.cells.specs.Room.{symbols_in, look_in}
use Rattle.cells.proofs.HeldSymbols.{look_of_stands}
use Rattle.cells.proofs.Takes.{taken_fault, taken_symbol, taken_variable}
use Rattle.cells.proofs.cells.take.Goals as goal

pub returns-in_err-word-clause-taken_as : goal.returns-in_err-word-clause-taken_as
returns-in_err-word-clause-taken_as c = let a = c.args in
    let p = err_from_is_err_and c.from_residual.result c.from_residual.ensures.1 in
    λ ns ws ms out front k st. rw p.1 (taken_fault (symbols_in a.c ns ws) a.query a.s.now st p.0
    (look_of_stands ns ws a.c a.symbols.now c.requires.0 k a.query a.p ms out a.modes.now a.s.now (look_in c.look_at.result) st.mode_room (c.look_at.ensures k.hashed)
    ∙ ap look_in (c.in_err-word.was ∙ ap Err (sym p.2))))

pub returns-in-Symbol-clause-taken_as : goal.returns-in-Symbol-clause-taken_as
returns-in-Symbol-clause-taken_as c = let a = c.args in
    λ ns ws ms out front k st. taken_symbol (symbols_in a.c ns ws) a.query a.s.now st c.in-Symbol.word c.in-Symbol.arity c.after_symbol.result c.put.new.items
    (look_of_stands ns ws a.c a.symbols.now c.requires.0 k a.query a.p ms out a.modes.now a.s.now (look_in c.look_at.result) st.mode_room (c.look_at.ensures k.hashed)
    ∙ ap look_in (c.in_ok-word.was ∙ ap Ok c.in-Symbol.is)) c.after_symbol.ensures.0 c.put.ensures

pub returns-in-Variable-clause-taken_as : goal.returns-in-Variable-clause-taken_as
returns-in-Variable-clause-taken_as c = let a = c.args in
    λ ns ws ms out front k st. taken_variable (symbols_in a.c ns ws) a.query a.s.now st c.in-Variable.number c.in-Variable.grounded c.after_variable.result c.variable_cell.result c.meet.new.modes c.put-in-Variable.new.items
    (look_of_stands ns ws a.c a.symbols.now c.requires.0 k a.query a.p ms out a.modes.now a.s.now (look_in c.look_at.result) st.mode_room (c.look_at.ensures k.hashed)
    ∙ ap look_in (c.in_ok-word.was ∙ ap Ok c.in-Variable.is)) c.after_variable.ensures.0 c.variable_cell.ensures c.put-in-Variable.ensures c.meet.ensures
