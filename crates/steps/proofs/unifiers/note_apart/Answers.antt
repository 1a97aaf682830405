-- `note_apart` meets its contract: the shape's word stands behind the notes, and the notes end behind it. Assumes nothing.
use native.Mathlib.Omega.{arith}
use Rattle.steps.proofs.NotedUnifiers.{note_apart}
use Rattle.steps.proofs.unifiers.note_apart.Goals as goal

pub returns : goal.returns
returns c = λ words dir start cells n a. note_apart n c.word_at-noted.ensures.0 (omega (arith, c.if-unifiers-at.false)) c.put_word.ensures c.put_word-2.ensures a
