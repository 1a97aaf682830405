-- `analyse` meets its contract: the scan accepts the words, or its fault is handed on. Assumes nothing.
use mathlib.Core.Path.{refl}
use Rattle.analysis.proofs.Replies.{refused_faulty}
use Rattle.program.proofs.FaultNumbers.{accepted_sound}
use Rattle.analysis.proofs.analyse.analyse.Goals as goal

pub tabled-requires : goal.tabled-requires
tabled-requires c = (refl, accepted_sound _ _ c.in-Ok.ensures refl)

pub returns-in-Err : goal.returns-in-Err
returns-in-Err c = refused_faulty _ c.in-Err.fault c.in-Err.ensures _ _ (c.fill.ensures.after (λ y e. e))
