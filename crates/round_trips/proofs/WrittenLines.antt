-- A line that the writer writes is cut off whole and cut into its keyword and its tokens; and the text goes on behind it.
use Prim.Native.Nat.{ℕ, suc, ◌+◌, ◌≤◌, ◌<◌}
use native.Mathlib.Omega.{arith}
use mathlib.Core.Path.{◌≡◌, refl, ap, ◌∙◌}
use mathlib.Core.Bool.{Bool, true, false, cond}
use mathlib.Core.List.{List, [], ◌∷◌, ◌++◌, append-nil, append_assoc}
use lib.ListN.{length}
use lib.Dec.{eqb}
use Rattle.program.specs.Within.{Each, none, more as each}
use Rattle.text.specs.Line.{line_feed, tab, onto, parts}
use Rattle.cells.specs.TextSoFar.{right, TextSoFar, more, last, Scenario}
use Rattle.reader.proofs.TextLines.{lines_of_more}
use Rattle.text_lines.specs.Lines.{fields_of, all_lines}
use Rattle.written_lines.specs.Tokens.{behind_tabs, line}
use Rattle.written_lines.specs.Lines.{section}
use Rattle.round_trips.proofs.Sections.{Items}
use Rattle.round_trips.proofs.Printed.{Bytes, Printed, fields_cut, line_cut}

-- behind a text so far the text is read as what is said, wherever it begins
abbrev pub ReadsOn : TextSoFar → List ℕ → Scenario → Type 0
ReadsOn t text s = (at : ℕ) → all_lines t at (parts line_feed text) ≡ right s

-- there is always a part
parts_some : (b : ℕ) (s : List ℕ) → (m : List ℕ) × (ms : List (List ℕ)) × (parts b s ≡ m ∷ ms)
parts_some b [] = ([], [], refl)
parts_some b (x ∷ xs) = go (eqb x b) (parts_some b xs)
  where
    go : (t : Bool) → (m : List ℕ) × (ms : List (List ℕ)) × (parts b xs ≡ m ∷ ms)
        → (m : List ℕ) × (ms : List (List ℕ)) × (cond t ([] ∷ parts b xs) (onto x (parts b xs)) ≡ m ∷ ms)
    go true r = ([], parts b xs, refl)
    go false r = (x ∷ r.0, r.1, ap (onto x) r.2)

module _ (t : TextSoFar) (keyword : List ℕ) (ss : List (List ℕ)) (k : Bytes keyword) (printed : Each Printed ss) where
  pub line_more : (rest : List ℕ) (t' : TextSoFar) (s : Scenario) → ((at : ℕ) → fields_of t at (keyword ∷ ss) ≡ right (more t'))
      → ReadsOn t' rest s → ReadsOn t (line keyword ss ++ rest) s
  line_more rest t' s h r at =
      let p = parts_some line_feed rest in
      let fields : fields_of t at (parts tab (keyword ++ behind_tabs ss)) ≡ right (more t') = rw (fields_cut keyword ss k printed) (h at) in
      rw (line_cut keyword ss rest k printed, p.2)
      (lines_of_more t at (keyword ++ behind_tabs ss) p.0 p.1 ∙ rw fields (rw p.2 at (r (at + length (keyword ++ behind_tabs ss) + 1))))

  pub line_last : (s : Scenario) → ((at : ℕ) → fields_of t at (keyword ∷ ss) ≡ right (last s)) → ReadsOn t (line keyword ss) s
  line_last s h at =
      let fields : fields_of t at (parts tab (keyword ++ behind_tabs ss)) ≡ right (last s) = rw (fields_cut keyword ss k printed) (h at) in
      rw (← append-nil (line keyword ss), line_cut keyword ss [] k printed)
      (lines_of_more t at (keyword ++ behind_tabs ss) [] [] ∙ rw fields)

-- a section, line by line: `so_far` is the text so far by the number of the line and the words of the section
module _ {A : Type 0} (k : Items A) (bytes : Bytes k.keyword) (Within : A → Type 0) (so_far : ℕ → List ℕ → TextSoFar) (from to : ℕ)
    (printed : (i : ℕ) (a : A) → i < to → Within a → Each Printed (k.fields i a))
    (step : (i : ℕ) (a : A) (ws : List ℕ) (at : ℕ) → from ≤ i → i < to → Within a
    → fields_of (so_far i ws) at (k.keyword ∷ k.fields i a) ≡ right (more (so_far (suc i) (ws ++ k.word a)))) where
  pub reads_section : (i : ℕ) (items : List A) (ws rest : List ℕ) (s : Scenario) → from ≤ i → i + length items ≡ to → Each Within items
      → ReadsOn (so_far to (ws ++ k.words items)) rest s → ReadsOn (so_far i ws) (section k.keyword k.fields i items ++ rest) s
  reads_section i [] ws rest s l e none r =
      let same : i ≡ to = omega arith in
      rw same (rw (k.none, append-nil ws) at r)
  reads_section i (a ∷ items) ws rest s l e (each h others) r =
      rw (append_assoc (line k.keyword (k.fields i a)) (section k.keyword k.fields (suc i) items) rest)
      (line_more (so_far i ws) k.keyword (k.fields i a) bytes (printed i a (omega arith) h)
      (section k.keyword k.fields (suc i) items ++ rest) (so_far (suc i) (ws ++ k.word a)) s (λ at. step i a ws at l (omega arith) h)
      (reads_section (suc i) items (ws ++ k.word a) rest s (omega arith) (omega arith) others
      (rw (append_assoc ws (k.word a) (k.words items), ← k.first a items) r)))
