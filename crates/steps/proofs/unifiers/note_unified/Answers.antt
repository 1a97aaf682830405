-- `note_unified` meets its contract: the shape's word and its bindings stand behind the notes, and the notes end behind them. Assumes nothing.
use native.Mathlib.Omega.{arith}
use mathlib.Core.Path.{refl}
use Rattle.steps.proofs.NotedUnifiers.{note_unified}
use Rattle.steps.proofs.unifiers.note_unified.Goals as goal

pub returns : goal.returns
returns c = let size = c.noted_size-size.ensures.0 in
    λ words dir start cells n u. note_unified n c.word_at-noted.ensures.0 refl (omega (arith, c.if-unifiers-at.false, size))
    c.put_word.ensures c.put_bindings.ensures (rw size at c.put_word-2.ensures) u
