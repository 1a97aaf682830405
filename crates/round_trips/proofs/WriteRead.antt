-- From words to words: an accepted program with sound names, written and read again, is the same words and the same names.
use Prim.Native.Nat.{ℕ, ◌+◌, ◌≤◌}
use native.Mathlib.Omega.{arith}
use mathlib.Core.Path.{◌≡◌, refl, sym, ap, ◌∙◌}
use mathlib.Core.List.{List, [], ◌∷◌, ◌++◌}
use lib.ListN.{length}
use borrow.Author.Tests.{le-ltb}
use Rattle.terms.specs.Cells.{enc}
use Rattle.program.specs.Limits.{max_words, max_bytes}
use Rattle.program.specs.Program.{Program}
use Rattle.program.specs.Faults.{Found, fault, sound, faults}
use Rattle.program.specs.Within.{after, modes_of, encode, WithinLimits}
use Rattle.program.proofs.ProgramWords.{sound_encoded, sound_within}
use Rattle.text_lines.specs.Keyword.{query}
use Rattle.cells.specs.TextSoFar.{right, nothing, Scenario}
use Rattle.reader.specs.Read.{read_of}
use Rattle.writer.specs.Names.{names_of}
use Rattle.written_lines.specs.Tokens.{atom_tokens, line}
use Rattle.written_lines.specs.Lines.{clause_lines}
use Rattle.writer.specs.Write.{text_of, written, write_of}
use Rattle.round_trips.proofs.ReadParts.{next_right}
use Rattle.round_trips.proofs.ReadNames.{SoundNames, names_right}
use Rattle.round_trips.proofs.WrittenNames.{names_sound}
use Rattle.round_trips.proofs.Sections.{last_section}
use Rattle.round_trips.proofs.ReadSoFar.{predicates_of, functions_of, clauses_of}
use Rattle.round_trips.proofs.WrittenLines.{ReadsOn}
use Rattle.round_trips.proofs.WrittenDeclarations.{reads_declared}
use Rattle.round_trips.proofs.WrittenClauses.{reads_clauses}
use Rattle.round_trips.proofs.WrittenQuery.{reads_query}
use Rattle.round_trips.proofs.WrittenLength.{written_length}

-- an encoded program and its names
abbrev pub scenario : List ℕ → List ℕ → Scenario
scenario words names = record { words = words; names = names }

-- what is known of what was written
pub record Written (words names text : List ℕ) : Type 0 where
  pub program : Program
  pub is : encode program ≡ words
  pub within : WithinLimits program
  pub names_are : SoundNames names (length program.predicates) (length program.functions)
  pub text_is : text ≡ text_of program names

pub write_written : (words names text : List ℕ) → write_of words names ≡ right text → Written words names text
unfolding write_of
write_written words names text e = found (faults words) refl e
  where
    found : (o : Found Program) → faults words ≡ o → written names o ≡ right text → Written words names text
    found (fault number place) f q = let z : ◌≡◌ {A = ℕ} 0 1 = cc in absurd (omega arith)
    found (sound p) f q =
        let ns = next_right (names_of names (length p.predicates) (length p.predicates + length p.functions)) (λ ns. right (text_of p ns)) text q in
        let named = names_sound names (length p.predicates) (length p.functions) ns.0 ns.1 in
        let same : text_of p ns.0 ≡ text = cc ns.2 in
        record {
          program = p;
          is = sound_encoded words p f;
          within = sound_within words p f;
          names_are = named.1;
          text_is = sym same ∙ ap (text_of p) named.0;
        }

-- the lines of a written text say the words and the names
reads_text : (p : Program) (names : List ℕ) → WithinLimits p → SoundNames names (length p.predicates) (length p.functions)
    → ReadsOn nothing (text_of p names) (scenario (encode p) names)
unfolding encode
reads_text p names w s =
    let ps : List ℕ = p.predicates in
    let fs : List ℕ = p.functions in
    let cs = p.clauses in
    let rest : List ℕ = line query (atom_tokens names (length ps) (modes_of (after 0 p.goal) p.grounded) (enc p.goal)) in
    reads_declared names ps fs s (clause_lines names (length ps) cs ++ rest) (scenario (encode p) names)
    w.some w.predicates_most w.functions_most w.predicate_arities w.function_arities
    (reads_clauses names ps fs s cs rest (scenario (encode p) names) w.some w.clauses_most w.clauses_within
    (rw (last_section names (predicates_of names ps ∷ functions_of names (length ps) fs ∷ []) (clauses_of names (length ps) cs))
    (reads_query names ps fs s (clauses_of names (length ps) cs ∷ []) p.goal p.grounded w.some w.goal_atom w.goal_numbered)))

-- it is never refused: not too long, no fault, not too many words
program_read : (p : Program) (names : List ℕ) → WithinLimits p → SoundNames names (length p.predicates) (length p.functions)
    → read_of (text_of p names) ≡ right (scenario (encode p) names)
unfolding read_of
program_read p names w s =
    rw (
      le-ltb max_bytes (length (text_of p names)) (written_length p names w s),
      reads_text p names w s 0,
      le-ltb max_words (length (encode p)) w.words_most,
    )

-- a written text is read as the words and the names that it was written from
pub write_read : (words names text : List ℕ) → write_of words names ≡ right text → read_of text ≡ right (scenario words names)
write_read words names text e =
    let w = write_written words names text e in
    ap read_of w.text_is ∙ program_read w.program names w.within w.names_are ∙ ap (λ (l : List ℕ). right (scenario l names)) w.is

-- 40,960 bytes are room enough for every text that is written
pub write_short : (words names text : List ℕ) → write_of words names ≡ right text → length text ≤ max_bytes
write_short words names text e =
    let w = write_written words names text e in
    rw w.text_is (written_length w.program names w.within w.names_are)

-- and every accepted program with sound names is written
pub sound_written : (words names : List ℕ) (p : Program) → faults words ≡ sound p
    → SoundNames names (length p.predicates) (length p.functions) → write_of words names ≡ right (text_of p names)
unfolding write_of
sound_written words names p e s = rw (e, names_right names (length p.predicates) (length p.functions) s)
