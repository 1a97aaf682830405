-- `middle_places` meets its contract: the places passed have their rows. Assumes nothing.
use Prim.Native.Nat.{◌-◌}
use Rattle.rows.specs.Rows.{keys_of}
use Rattle.steps.specs.Steps.{Given, Grew}
use Rattle.clauses.specs.Clauses.{MiddlesAsked, PastPlaces}
use Rattle.clauses.specs.Working.{Working}
use Rattle.clauses.proofs.clauses.middle_places.Given as goal

abbrev pub invariant-loop-j : goal.invariant-loop-j
invariant-loop-j l = ((w : MiddlesAsked l.program.words.now l.program.dir.now l.initial.table l.heads l.at.since l.at.rows l.first l.last)
    → Grew (Given w.situation.p (keys_of l.initial.table l.at.rows)) l.at.number l.at.room l.n l.initial.table l.initial.work.buckets (PastPlaces w.situation.p (keys_of l.initial.table l.at.since) (keys_of l.initial.table l.at.rows) w.k (l.j - l.first)) l.rows l.table l.work.buckets)
    × Working l.program.words.now l.program.dir.now l.table l.work l.at.rows l.rows l.at.room
