-- The query that the writer writes is read as the goal's words, and the text ends behind it.
use Prim.Native.Nat.{ℕ, zero, suc, ◌+◌, ◌≤◌, ◌<◌}
use native.Mathlib.Omega.{arith}
use mathlib.Core.Path.{◌≡◌, refl, sym, ap, ◌∙◌}
use mathlib.Core.Logic.{inl, inr}
use mathlib.Core.Bool.{true}
use mathlib.Core.List.{List, [], ◌∷◌, ◌++◌, append-nil, append_assoc}
use lib.ListN.{length, get_or, take}
use lib.Seq.{take-suc, take-length}
use borrow.Author.Tests.{lt-ltb}
use Rattle.terms.specs.Term.{Term}
use Rattle.terms.specs.Cells.{enc, Atom}
use Rattle.program.specs.Within.{Each, none, more, after, Numbered, modes_of}
use Rattle.program.proofs.Modes.{modes_each, modes_length}
use Rattle.text_lines.specs.Keyword.{query}
use Rattle.cells.specs.TextSoFar.{right, last, Scenario}
use Rattle.text_lines.specs.Lines.{fields_of}
use Rattle.written_lines.specs.Tokens.{atom_tokens, line}
use Rattle.round_trips.proofs.Printed.{name_printed}
use Rattle.round_trips.proofs.ReadNames.{SoundNames}
use Rattle.round_trips.proofs.WrittenCells.{Mode, modes_up_to, declared_symbols, row_at}
use Rattle.round_trips.proofs.WrittenAtoms.{TakesTo, take_atom, take_end}
use Rattle.round_trips.proofs.WrittenTokens.{atom_printed}
use Rattle.round_trips.proofs.Sections.{Section, counts_in, words_before, words_behind, behind_sections}
use Rattle.round_trips.proofs.ReadSoFar.{predicates_of, functions_of}
use Rattle.round_trips.proofs.WrittenLines.{ReadsOn, line_last}

-- a mode is any or ground
each_mode : (modes : List ℕ) → Each (λ m. m ≤ 1) modes → (v : ℕ) → Mode true (get_or modes v 0)
each_mode [] none v = inl refl
each_mode (zero ∷ ms) (more h each) zero = inl refl
each_mode (suc zero ∷ ms) (more h each) zero = inr (refl, refl)
each_mode (suc (suc m) ∷ ms) (more h each) zero = absurd (omega arith)
each_mode (m ∷ ms) (more h each) (suc v) = each_mode ms each v

modes_front : (modes : List ℕ) (k : ℕ) → k ≤ length modes → modes_up_to modes k ≡ take k modes
modes_front modes zero h = refl
modes_front modes (suc k) h =
    ap (λ (l : List ℕ). l ++ get_or modes k 0 ∷ []) (modes_front modes k (omega arith)) ∙ sym (take-suc modes k 0 h)

pub modes_all : (modes : List ℕ) (k : ℕ) → length modes ≡ k → modes_up_to modes k ≡ modes
modes_all modes k e = rw (← e) (modes_front modes (length modes) (omega arith) ∙ take-length modes)

-- behind the declarations and any other sections
module _ (names ps fs : List ℕ) (sound : SoundNames names (length ps) (length fs)) (others : List Section) (t : Term) (grounded : ℕ)
    (some : 0 < length ps) (a : Atom ps fs t) (numbered : Numbered 0 t) where
  abbrev modes : List ℕ
  modes = modes_of (after 0 t) grounded

  abbrev sections : List Section
  sections = predicates_of names ps ∷ functions_of names (length ps) fs ∷ others

  -- what is read of the whole
  abbrev pub scenario : Scenario
  scenario = record { words = counts_in sections ++ words_before sections (enc t ++ after 0 t ∷ modes); names = names }

  query_read : (at : ℕ) → fields_of (behind_sections names sections) at (query ∷ atom_tokens names (length ps) modes (enc t)) ≡ right (last scenario)
  query_read at =
      let m : (v : ℕ) → Mode true (get_or modes v 0) = each_mode modes (modes_each (after 0 t) grounded) in
      let r = row_at modes 1 0 (length (enc t)) (after 0 t) (enc t) in
      let ws : List ℕ = words_before others [] in
      let taken : TakesTo (declared_symbols names ps fs ws) true (row_at modes 0 0 0 0 []) (atom_tokens names (length ps) modes (enc t)) r
      = rw (append-nil (atom_tokens names (length ps) modes (enc t)))
      at (take_atom names ps fs ws true modes sound m t 0 0 0 [] [] r a numbered (omega arith) refl
      (take_end names ps fs ws true modes sound m 1 (length (enc t)) (after 0 t) (enc t) (omega arith))) in
      rw (
        lt-ltb 0 (length ps) some,
        taken (at + 5),
        modes_all modes (after 0 t) (modes_length (after 0 t) grounded),
        append_assoc (words_before sections []) (enc t) (after 0 t ∷ modes),
        words_behind sections [] (enc t ++ after 0 t ∷ modes),
      )

  pub reads_query : ReadsOn (behind_sections names sections) (line query (atom_tokens names (length ps) modes (enc t))) scenario
  reads_query =
      line_last (behind_sections names sections) query (atom_tokens names (length ps) modes (enc t)) (name_printed query refl).bytes
      (atom_printed names ps fs sound modes t a) scenario query_read
