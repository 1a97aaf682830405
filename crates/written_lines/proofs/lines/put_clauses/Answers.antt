-- `written_lines::lines::put_clauses` meets its contract. The loop's invariant: the clauses so far are written, and the others come next. Assumes nothing.
use Prim.Native.Nat.{ℕ, ◌≤◌}
use mathlib.Core.Path.{refl, subst}
use mathlib.Core.List.{List}
use native.Mathlib.Omega.{arith}
use native.Mathlib.Numerals.{add-one}
use lib.ListN.{length}
use lib.Seq.{take_all}
use Rattle.program.specs.Program.{Clause}
use Rattle.program.specs.Within.{encode_clauses}
use Rattle.text.specs.Put.{Put}
use Rattle.text.proofs.Puts.{put_append}
use Rattle.written_lines.specs.Lines.{clause_lines}
use Rattle.written_lines.proofs.ClauseWalk.{none_to_come, next_clause, next_clause_text}
use Rattle.written_lines.proofs.lines.put_clauses.Goals as goal

pub put_clause-walked-requires : goal.put_clause-walked-requires
put_clause-walked-requires c = next_clause _ _ _ _ _ c.requires.0 _ _ (c.loop.invariant c.requires.0).0 c.loop-test.true

pub loop-preserved : goal.loop-preserved
loop-preserved c = let s = c.args in
    λ a.
    let inv = c.loop.invariant a in
    let h = c.loop-test.true in
    let w = c.put_clause-walked.ensures (next_clause _ _ _ _ _ a _ _ inv.0 h) in
    rw add-one (
      record { cut = w.to_come; within = w.within },
      subst (λ (t : List ℕ). Put t s.out.now c.put_clause-walked.new.out s.from.end c.put_clause-walked.result.end)
          (next_clause_text _ _ _ _ _ a _ _ inv.0 h s.symbols.now.names.now (length s.symbols.now.predicates.now))
          (put_append inv.1 w.put),
    )

pub returns : goal.returns
returns c = let s = c.args in
    λ a.
    let inv = c.loop.invariant a in
    let all : length a.clauses ≤ c.loop.counter = omega (arith, a.many) in
    record {
      to_come = none_to_come encode_clauses _ a.clauses _ c.loop.counter _ inv.0 refl all;
      within = inv.0.within;
      put =
          subst (λ (cs : List Clause). Put (clause_lines s.symbols.now.names.now (length s.symbols.now.predicates.now) cs) s.out.now c.loop.out s.from.end c.loop.walked.end)
          (take_all c.loop.counter a.clauses all) inv.1;
    }
