-- The shapes are asked for only once the check has accepted the words.
use mathlib.Core.Path.{refl}
use Rattle.program.proofs.FaultNumbers.{accepted_sound}
use Rattle.program_main.proofs.reply.Goals as goal

pub shapes-requires : goal.shapes-requires
shapes-requires g c = accepted_sound _ _ c.in-Ok.ensures refl
