-- `written_lines::atoms::put_atoms` meets its contract. The loop's invariant: the atoms so far are written, and the others come next. Assumes nothing.
use lib.ListN.{length, take}
use Rattle.program.specs.Within.{encode_atoms}
use Rattle.directory.specs.From.{AtomsFrom}
use Rattle.text.specs.Put.{Put}
use Rattle.written_lines.specs.Tokens.{atoms_tokens, behind_tabs}
use Rattle.written_lines.proofs.ClauseWalk.{ToCome}
use Rattle.written_lines.proofs.atoms.put_atoms.Given as goal

abbrev pub invariant-loop : goal.invariant-loop
invariant-loop l = (a : AtomsFrom l.words l.fn.from.at l.symbols.predicates.now l.symbols.functions.now l.count) → ToCome encode_atoms l.words a.atoms a.rest l.counter l.walked.at
    × Put (behind_tabs (atoms_tokens l.symbols.names.now (length l.symbols.predicates.now) (take l.counter a.atoms))) l.initial.out l.out l.fn.from.end l.walked.end
