-- The clauses that the writer writes are read as the words of those clauses.
use Prim.Native.Nat.{ℕ, suc, ◌+◌, ◌-◌, ◌≤◌, ◌<◌}
use native.Mathlib.Omega.{arith}
use native.Mathlib.Nat.{add-zero, zero-add}
use native.Mathlib.Numerals.{add-one}
use mathlib.Core.Path.{◌≡◌, refl}
use mathlib.Core.Logic.{inl}
use mathlib.Core.Bool.{false}
use mathlib.Core.List.{List, [], ◌∷◌, ◌++◌, append-nil, append_assoc}
use lib.ListN.{length, get_or}
use borrow.Author.Tests.{lt-ltb}
use Rattle.terms.specs.Term.{Term}
use Rattle.terms.specs.Cells.{enc, Atom}
use Rattle.program.specs.Limits.{max_declared, max_body}
use Rattle.program.specs.Program.{Clause}
use Rattle.program.specs.Within.{Each, none, more, after, NumberedAll, encode_atoms, encode_clauses, WithinClause}
use Rattle.program.proofs.AtomWords.{after_all}
use Rattle.text_lines.specs.Keyword.{clause}
use Rattle.cells.specs.TextSoFar.{right, TextSoFar, more as goesOn, Scenario}
use Rattle.text_lines.specs.Lines.{fields_of}
use Rattle.written_lines.specs.Tokens.{atoms_tokens}
use Rattle.written_lines.specs.Lines.{clause_fields, clause_lines}
use Rattle.round_trips.proofs.Printed.{name_printed}
use Rattle.round_trips.proofs.ReadNames.{SoundNames}
use Rattle.round_trips.proofs.WrittenCells.{Mode, declared_symbols, row_at}
use Rattle.round_trips.proofs.WrittenAtoms.{TakesTo, take_atom, take_end}
use Rattle.round_trips.proofs.WrittenTokens.{atoms_printed}
use Rattle.round_trips.proofs.Sections.{words_behind, in_section}
use Rattle.round_trips.proofs.ReadSoFar.{clause_items, predicates_of, functions_of}
use Rattle.round_trips.proofs.WrittenLines.{ReadsOn, reads_section}

module _ (names ps fs : List ℕ) (sound : SoundNames names (length ps) (length fs)) where
  -- no variable of a clause is marked
  unmarked : (v : ℕ) → Mode false (get_or [] v 0)
  unmarked v = inl refl

  -- atoms one after another, to the end of the line
  take_atoms : (ws : List ℕ) (ts : List Term) (atoms cells seen : ℕ) (out : List ℕ) → Each (Atom ps fs) ts → NumberedAll seen ts
      → atoms + length ts ≤ suc max_body → 0 < atoms + length ts
      → (last : ℕ)
      × TakesTo (declared_symbols names ps fs ws) false (row_at [] atoms 0 cells seen out) (atoms_tokens names (length ps) ts)
      (row_at [] (atoms + length ts) 0 last (after_all seen ts) (out ++ encode_atoms ts))
  take_atoms ws [] atoms cells seen out none numbered few some =
      (cells, rw (add-zero atoms, append-nil out) (take_end names ps fs ws false [] sound unmarked atoms cells seen out (omega arith)))
  take_atoms ws (t ∷ ts) atoms cells seen out (more a each) numbered few some =
      let others = take_atoms ws ts (atoms + 1) (length (enc t)) (after seen t) (out ++ enc t) each numbered.1 (omega arith) (omega arith) in
      let number : atoms + 1 + length ts ≡ atoms + suc (length ts) = omega arith in (
        others.0,
        take_atom names ps fs ws false [] sound unmarked t atoms cells seen out (atoms_tokens names (length ps) ts)
            (row_at [] (atoms + suc (length ts)) 0 others.0 (after_all (after seen t) ts) (out ++ (enc t ++ encode_atoms ts)))
            a numbered.0 (omega arith) refl (rw (number, append_assoc out (enc t) (encode_atoms ts)) at others.1),
      )

  -- the text so far, within the clauses
  abbrev in_clauses : ℕ → List ℕ → TextSoFar
  in_clauses n ws = in_section names (predicates_of names ps ∷ functions_of names (length ps) fs ∷ []) 0 n ws

  clause_read : (n : ℕ) (c : Clause) (ws : List ℕ) (at : ℕ) → 0 < length ps → n < max_declared → WithinClause ps fs c
      → fields_of (in_clauses n ws) at (clause ∷ clause_fields names (length ps) n c)
      ≡ right (goesOn (in_clauses (suc n) (ws ++ length c.body ∷ encode_atoms (c.head ∷ c.body))))
  clause_read n c ws at some few w =
      let short : length c.body ≤ max_body = w.body in
      let taken = take_atoms ws (c.head ∷ c.body) 0 0 0 [] (more w.head_atom w.body_atoms) w.numbered (omega arith) (omega arith) in
      let size : 0 + suc (length c.body) - 1 ≡ length c.body = omega arith in
      rw (
        lt-ltb 0 (length ps) some,
        lt-ltb n max_declared few,
        taken.1 (at + 6),
        size,
        add-one n,
        words_behind (predicates_of names ps ∷ functions_of names (length ps) fs ∷ []) ws (length c.body ∷ encode_atoms (c.head ∷ c.body)),
      )

  pub reads_clauses : (cs : List Clause) (rest : List ℕ) (s : Scenario) → 0 < length ps → length cs ≤ max_declared → Each (WithinClause ps fs) cs
      → ReadsOn (in_clauses (length cs) (encode_clauses cs)) rest s → ReadsOn (in_clauses 0 []) (clause_lines names (length ps) cs ++ rest) s
  reads_clauses cs rest s some few each r =
      reads_section (clause_items names (length ps)) (name_printed clause refl).bytes (WithinClause ps fs) in_clauses 0 (length cs)
      (λ n c h w. atoms_printed names ps fs sound (c.head ∷ c.body) (more w.head_atom w.body_atoms))
      (λ n c ws at l h w. clause_read n c ws at some (omega arith) w)
      0 cs [] rest s (omega arith) (zero-add (length cs)) each r
