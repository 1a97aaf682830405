-- `round` meets its contract: the clauses passed are dealt with. Assumes nothing.
use mathlib.Core.Path.{◌≡◌}
use lib.ListN.{get_or}
use Rattle.marks.specs.Modes.{modes}
use Rattle.directory.specs.Layout.{clause_count}
use Rattle.rows.specs.Rows.{keys_of}
use Rattle.table.specs.Added.{Below}
use Rattle.table.specs.NewRows.{NewIn}
use Rattle.table.specs.RoundKeys.{Keyed}
use Rattle.steps.specs.Situation.{Situation}
use Rattle.steps.specs.Steps.{Given, RowsIn, Grew}
use Rattle.steps.specs.Unifiers.{Room}
use Rattle.clauses.specs.Working.{Working}
use Rattle.rounds.proofs.rounds.round.Given as goal

abbrev pub invariant-loop-k : goal.invariant-loop-k
invariant-loop-k l = (l.clauses ≡ get_or l.program.dir.now clause_count 0)
    × ((w : Situation l.program.words.now l.program.dir.now l.initial.table l.heads l.at.since l.at.rows)
    → Grew (Given w.p (keys_of l.initial.table l.at.rows)) l.at.number l.at.room l.at.rows l.initial.table l.initial.work.buckets
    (Below (λ k. Keyed w.p (NewIn modes w.p (RowsIn w.p (keys_of l.initial.table l.at.since)) (RowsIn w.p (keys_of l.initial.table l.at.rows)) k)) l.k) l.rows l.table l.work.buckets)
    × Working l.program.words.now l.program.dir.now l.table l.work l.at.rows l.rows l.at.room × Room l.unifiers
