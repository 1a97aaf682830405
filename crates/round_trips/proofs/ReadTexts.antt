-- Texts line by line: a text that is accepted is what is written of the program and the names that were read.
use Prim.Native.Nat.{ℕ, ◌+◌, ◌≤◌}
use native.Mathlib.Omega.{arith}
use mathlib.Core.Path.{◌≡◌, refl, sym, ap, ◌∙◌}
use mathlib.Core.List.{List, [], ◌∷◌, ◌++◌, append-nil, append_assoc}
use lib.ListN.{length}
use lib.Dec.{ltb}
use borrow.Author.Tests.{ltb-false}
use Rattle.program.specs.Limits.{max_words, max_bytes}
use Rattle.program.specs.Reply.{too_long}
use Rattle.text.specs.Line.{parts, tab, line_feed}
use Rattle.text_lines.specs.Keyword.{kind_of}
use Rattle.cells.specs.TextSoFar.{Read, wrong, right, TextSoFar, nothing, Scenario, Line, more, last}
use Rattle.declarations.specs.Declarations.{pred_line, func_line}
use Rattle.text_lines.specs.Lines.{clause_line, query_line, line_of, fields_of, ending, lines_of, all_lines}
use Rattle.reader.specs.Read.{counted, read_of}
use Rattle.text_lines.specs.declared.keyword.Kind.{Kind}
use Rattle.text_lines.specs.declared.keyword.Kind.TheVariants.{Pred, Func, Clause, Query, Other}
use Rattle.text_lines.proofs.LineKinds.{KindIs, kind_is}
use Rattle.reader.proofs.TextLines.{after_line, lines_of_more}
use Rattle.written_lines.specs.Tokens.{line}
use Rattle.round_trips.proofs.ReadLines.{behind_each, parts_together, line_together}
use Rattle.round_trips.proofs.ReadParts.{next_right, second_right}
use Rattle.round_trips.proofs.ReadSoFar.{ReadSoFar, nothing_so_far}
use Rattle.round_trips.proofs.ReadDeclarations.{pred_read, func_read}
use Rattle.round_trips.proofs.ReadClauses.{clause_read}
use Rattle.round_trips.proofs.ReadQuery.{ReadProgram, query_read}

-- what is known of a line, by what it comes to
abbrev LineRead : Line → List ℕ → Type 0
LineRead (more t) text = ReadSoFar t text
LineRead (last s) text = ReadProgram s text

module _ (t : TextSoFar) (text : List ℕ) (at : ℕ) (read : ReadSoFar t text) where
  kind_read : (k : Kind) (keyword : List ℕ) (ss : List (List ℕ)) (x : Line) → KindIs keyword k → line_of t at k ss ≡ right x → LineRead x (text ++ line keyword ss)
  kind_read Pred keyword ss x is e =
      let one = next_right (pred_line t at ss) (λ t'. right (more t')) x e in
      let same : more one.0 ≡ x = cc one.2 in
      rw (is, ← same) (pred_read t one.0 text at ss read one.1)
  kind_read Func keyword ss x is e =
      let one = next_right (func_line t at ss) (λ t'. right (more t')) x e in
      let same : more one.0 ≡ x = cc one.2 in
      rw (is, ← same) (func_read t one.0 text at ss read one.1)
  kind_read Clause keyword ss x is e =
      let one = next_right (clause_line t at ss) (λ t'. right (more t')) x e in
      let same : more one.0 ≡ x = cc one.2 in
      rw (is, ← same) (clause_read t one.0 text at ss read one.1)
  kind_read Query keyword ss x is e =
      let one = next_right (query_line t at ss) (λ s. right (last s)) x e in
      let same : last one.0 ≡ x = cc one.2 in
      rw (is, ← same) (query_read t one.0 text at ss read one.1)
  kind_read Other keyword ss x is e = let z : ◌≡◌ {A = ℕ} 0 1 = cc in absurd (omega arith)

  line_read : (l : List ℕ) (x : Line) → fields_of t at (parts tab l) ≡ right x → LineRead x (text ++ (l ++ line_feed ∷ []))
  line_read l x e = by (parts tab l) refl e
    where
      by : (fields : List (List ℕ)) → parts tab l ≡ fields → fields_of t at fields ≡ right x → LineRead x (text ++ (l ++ line_feed ∷ []))
      by [] f q = let z : ◌≡◌ {A = ℕ} 0 1 = cc in absurd (omega arith)
      by (keyword ∷ ss) f q = rw (line_together l keyword ss f) (kind_read (kind_of keyword) keyword ss x (kind_is keyword) q)

-- nothing stands behind the query
ending_read : (s s' : Scenario) (at : ℕ) (m : List ℕ) (ls : List (List ℕ)) → ending s at m ls ≡ right s' → (s ≡ s') × (m ++ behind_each line_feed ls ≡ [])
ending_read s s' at [] [] e = let same : s ≡ s' = cc in (same, refl)
ending_read s s' at [] (m ∷ ls) e = let z : ◌≡◌ {A = ℕ} 0 1 = cc in absurd (omega arith)
ending_read s s' at (b ∷ m) ls e = let z : ◌≡◌ {A = ℕ} 0 1 = cc in absurd (omega arith)

-- the text from a line on, behind what was read before it
lines_read : (ls : List (List ℕ)) (t : TextSoFar) (at : ℕ) (l text : List ℕ) (s : Scenario) → ReadSoFar t text → lines_of t at l ls ≡ right s
    → ReadProgram s (text ++ (l ++ behind_each line_feed ls))
lines_read [] t at l text s read e = let z : ◌≡◌ {A = ℕ} 0 1 = cc in absurd (omega arith)
lines_read (m ∷ ls) t at l text s read e =
    by (fields_of t at (parts tab l)) refl (sym (lines_of_more t at l m ls) ∙ e) (λ t' read' q. lines_read ls t' (at + length l + 1) m (text ++ (l ++ line_feed ∷ [])) s read' q)
  where
    behind_line : text ++ (l ++ line_feed ∷ []) ++ (m ++ behind_each line_feed ls) ≡ text ++ (l ++ behind_each line_feed (m ∷ ls))
    behind_line =
        append_assoc text (l ++ line_feed ∷ []) (m ++ behind_each line_feed ls)
        ∙ ap (λ (x : List ℕ). text ++ x) (append_assoc l (line_feed ∷ []) (m ++ behind_each line_feed ls))

    by : (o : Read Line) → fields_of t at (parts tab l) ≡ o → after_line o (at + length l + 1) m ls ≡ right s
        → ((t' : TextSoFar) → ReadSoFar t' (text ++ (l ++ line_feed ∷ [])) → lines_of t' (at + length l + 1) m ls ≡ right s
        → ReadProgram s (text ++ (l ++ line_feed ∷ []) ++ (m ++ behind_each line_feed ls)))
        → ReadProgram s (text ++ (l ++ behind_each line_feed (m ∷ ls)))
    by (wrong number place) f q ih = let z : ◌≡◌ {A = ℕ} 0 1 = cc in absurd (omega arith)
    by (right (more t')) f q ih = rw behind_line at (ih t' (line_read t text at read l (more t') f) q)
    by (right (last s')) f q ih =
        let r : ReadProgram s' (text ++ (l ++ line_feed ∷ [])) = line_read t text at read l (last s') f in
        let end = ending_read s' s (at + length l + 1) m ls q in
        let whole : text ++ (l ++ line_feed ∷ []) ≡ text ++ (l ++ behind_each line_feed (m ∷ ls)) =
        sym (append-nil (text ++ (l ++ line_feed ∷ []))) ∙ ap (λ (x : List ℕ). text ++ (l ++ line_feed ∷ []) ++ x) (sym end.1) ∙ behind_line in
        rw (end.0, whole) at r

all_read : (text : List ℕ) (s : Scenario) (ls : List (List ℕ)) → parts line_feed text ≡ ls → all_lines nothing 0 ls ≡ right s → ReadProgram s text
all_read text s [] f e = let z : ◌≡◌ {A = ℕ} 0 1 = cc in absurd (omega arith)
all_read text s (l ∷ ls) f e =
    rw (← parts_together line_feed text l ls f) at (lines_read ls nothing 0 l [] s nothing_so_far e)

-- an accepted text
pub record ReadText (text : List ℕ) (s : Scenario) : Type 0 where
  pub program : ReadProgram s text
  pub short : length s.words ≤ max_words

-- (text) an accepted text's words and names
pub text_read : (text : List ℕ) (s : Scenario) → read_of text ≡ right s → ReadText text s
unfolding read_of
text_read text s e =
    let one = second_right (ltb max_bytes (length text)) _ too_long max_bytes s e in
    let two = next_right (all_lines nothing 0 (parts line_feed text)) (counted (length text)) s one.1 in
    let three = second_right (ltb max_words (length two.0.words)) (right two.0) too_long (length text) s two.2 in
    let same : two.0 ≡ s = cc three.1 in
    record {
      program = rw same at (all_read text two.0 (parts line_feed text) refl two.1);
      short = rw same at (ltb-false max_words (length two.0.words) three.0);
    }
