-- `written_lines::lines::put_clause` meets its contract: the keyword, the atoms, LF. Assumes nothing.
use native.Mathlib.Omega.{arith}
use Rattle.directory.proofs.ClauseWalk.{clause_within}
use Rattle.text.proofs.Puts.{put_append}
use Rattle.written_lines.proofs.ClauseWalk.{clause_atoms}
use Rattle.written_lines.proofs.lines.put_clause.Goals as goal

pub put_atoms-atoms-requires : goal.put_atoms-atoms-requires
put_atoms-atoms-requires c = let h = clause_within _ _ _ _ c.requires in
    (clause_atoms _ _ _ _ c.requires c.from-count.result c.from-count.ensures, omega arith)

pub returns : goal.returns
returns c = λ a.
    let w = c.put_atoms-atoms.ensures (clause_atoms _ _ _ _ a c.from-count.result c.from-count.ensures) in
    record { to_come = w.to_come; within = w.within; put = put_append (put_append c.put_bytes.ensures w.put) c.put_byte.ensures }
