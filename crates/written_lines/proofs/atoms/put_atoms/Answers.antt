-- `written_lines::atoms::put_atoms` meets its contract. The loop's invariant: the atoms so far are written, and the others come next. Assumes nothing.
use Prim.Native.Nat.{ℕ, ◌≤◌}
use mathlib.Core.Path.{refl, subst}
use mathlib.Core.List.{List}
use native.Mathlib.Omega.{arith}
use native.Mathlib.Numerals.{add-one}
use lib.ListN.{length}
use lib.Seq.{take_all}
use Rattle.terms.specs.Term.{Term}
use Rattle.program.specs.Within.{encode_atoms}
use Rattle.text.specs.Put.{Put}
use Rattle.text.proofs.Puts.{put_append}
use Rattle.written_lines.specs.Tokens.{atoms_tokens, behind_tabs}
use Rattle.written_lines.proofs.ClauseWalk.{none_to_come, next_atom, next_atom_text}
use Rattle.written_lines.proofs.atoms.put_atoms.Goals as goal

pub put_atom-walked-requires : goal.put_atom-walked-requires
put_atom-walked-requires c = next_atom _ _ _ _ _ c.requires.0 _ _ (c.loop.invariant c.requires.0).0 c.loop-test.true

pub loop-preserved : goal.loop-preserved
loop-preserved c = let s = c.args in
    λ a.
    let inv = c.loop.invariant a in
    let h = c.loop-test.true in
    let w = c.put_atom-walked.ensures (next_atom _ _ _ _ _ a _ _ inv.0 h) in
    rw add-one (
      record { cut = w.to_come; within = w.within },
      subst (λ (t : List ℕ). Put t s.out.now c.put_atom-walked.new.out s.from.end c.put_atom-walked.result.end)
          (next_atom_text _ _ _ _ _ a _ _ inv.0 h s.symbols.now.names.now (length s.symbols.now.predicates.now))
          (put_append inv.1 w.put),
    )

pub returns : goal.returns
returns c = let s = c.args in
    λ a.
    let inv = c.loop.invariant a in
    let all : length a.atoms ≤ c.loop.counter = omega (arith, a.many) in
    record {
      to_come = none_to_come encode_atoms _ a.atoms _ c.loop.counter _ inv.0 refl all;
      within = inv.0.within;
      put =
          subst (λ (ts : List Term). Put (behind_tabs (atoms_tokens s.symbols.now.names.now (length s.symbols.now.predicates.now) ts)) s.out.now c.loop.out s.from.end c.loop.walked.end)
          (take_all c.loop.counter a.atoms all) inv.1;
    }
