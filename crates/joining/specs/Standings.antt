-- Where the analysis stands, as the code has it in one value.
use Rattle.steps.specs.Situation.{Situation}
use Rattle.joining.specs.declared.standing.Standing.{Standing}

abbrev pub SituationOf : Standing → Type 0
SituationOf s = Situation s.program.words.now s.program.dir.now s.table.now s.heads.now s.since s.before
