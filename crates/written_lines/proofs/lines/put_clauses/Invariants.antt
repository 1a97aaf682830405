-- `written_lines::lines::put_clauses` meets its contract. The loop's invariant: the clauses so far are written, and the others come next. Assumes nothing.
use lib.ListN.{length, take}
use Rattle.program.specs.Within.{encode_clauses}
use Rattle.directory.specs.From.{ClausesFrom}
use Rattle.text.specs.Put.{Put}
use Rattle.written_lines.specs.Lines.{clause_lines}
use Rattle.written_lines.proofs.ClauseWalk.{ToCome}
use Rattle.written_lines.proofs.lines.put_clauses.Given as goal

abbrev pub invariant-loop : goal.invariant-loop
invariant-loop l = (a : ClausesFrom l.words l.fn.from.at l.symbols.predicates.now l.symbols.functions.now l.count) → ToCome encode_clauses l.words a.clauses a.rest l.counter l.walked.at
    × Put (clause_lines l.symbols.names.now (length l.symbols.predicates.now) (take l.counter a.clauses)) l.initial.out l.out l.fn.from.end l.walked.end
