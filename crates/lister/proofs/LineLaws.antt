-- The lines of a listing, one more at a time; the rows of the table, by their words.
use Prim.Native.Nat.{ℕ, zero, suc, ◌+◌, ◌*◌, ◌≤◌, ◌<◌}
use native.Mathlib.Omega.{arith}
use mathlib.Core.Path.{◌≡◌, refl, sym, ap, ap₂, ◌∙◌}
use mathlib.Core.List.{List, [], ◌∷◌, ◌++◌, append_assoc, append-nil}
use lib.ListN.{length, get_or, take, drop, take-append-drop, length-append}
use lib.Seq.{length-take-le}
use Rattle.terms.specs.Term.{Term, var}
use Rattle.program.specs.Program.{Nth, here, there, Program}
use Rattle.program.specs.Limits.{row_size}
use Rattle.program.proofs.ShapeLaws.{nth_member, nth_get_d}
use Rattle.directory.specs.Layout.{shape_count}
use Rattle.directory.proofs.DirectoryLaws.{shape_under}
use Rattle.program.proofs.Nths.{nth_below, below_nth}
use Rattle.directory.proofs.Cuts.{nth_take}
use Rattle.table.specs.Rules.{Row, call, cont, solution}
use Rattle.table.specs.Table.{Entry, row_words, entry_words, table_words}
use Rattle.table.proofs.Promise.{table_words_length}
use Rattle.steps.proofs.Meetings.{setting_within}
use Rattle.written_lines.specs.Walked.{Named}
use Rattle.writer.specs.Names.{names_reply}
use Rattle.writer.proofs.Answers.{names_size}
use Rattle.listing_lines.specs.Lines.{shape_line, row_line}
use Rattle.listing_lines.specs.Asked.{RowIn, Spoken, ShapeAsked}
use Rattle.lister.specs.Listing.{shape_lines, row_lines}
use Rattle.lister.specs.Joined.{joined}
use Rattle.lister.specs.Asked.{Tabled, ListingAsked}

module _ (names : List ℕ) (predicates : ℕ) where
  shapes_append : (s : ℕ) (l m : List Term) → shape_lines names predicates s (l ++ m) ≡ shape_lines names predicates s l ++ shape_lines names predicates (s + length l) m
  shapes_append s [] m = let e : s + 0 ≡ s = omega arith in rw e
  shapes_append s (S ∷ l) m =
      let e : suc s + length l ≡ s + suc (length l) = omega arith in
      ap (λ (x : List ℕ). shape_line names predicates s S ++ x) (shapes_append (suc s) l m ∙ ap (λ (n : ℕ). shape_lines names predicates (suc s) l ++ shape_lines names predicates n m) e)
      ∙ sym (append_assoc (shape_line names predicates s S) (shape_lines names predicates (suc s) l) _)

  -- one shape more
  pub shapes_more : {l : List Term} {s : ℕ} {S : Term} → Nth l s S
      → shape_lines names predicates 0 (take (suc s) l) ≡ shape_lines names predicates 0 (take s l) ++ shape_line names predicates s S
  shapes_more {l} {s} {S} h =
      let e : 0 + length (take s l) ≡ s = omega (arith, length-take-le s l (omega (arith, nth_below h))) in
      ap (shape_lines names predicates 0) (nth_take h) ∙ shapes_append 0 (take s l) (S ∷ [])
      ∙ ap (λ (n : ℕ). shape_lines names predicates 0 (take s l) ++ (shape_line names predicates n S ++ [])) e
      ∙ ap (λ (x : List ℕ). shape_lines names predicates 0 (take s l) ++ x) (append-nil (shape_line names predicates s S))

  -- those still to come
  pub shapes_rest : (s : ℕ) (l : List Term)
      → shape_lines names predicates 0 (take s l) ++ shape_lines names predicates (0 + length (take s l)) (drop s l) ≡ shape_lines names predicates 0 l
  shapes_rest s l = sym (shapes_append 0 (take s l) (drop s l)) ∙ ap (shape_lines names predicates 0) (take-append-drop s l)

  -- shape number s of them
  abbrev pub shape_text : List Term → ℕ → List ℕ
  shape_text l s = shape_line names predicates s (get_or l s (var 0))

  pub shapes_joined : (l : List Term) (n : ℕ) → n ≤ length l → joined (shape_text l) n ≡ shape_lines names predicates 0 (take n l)
  shapes_joined l zero h = refl
  shapes_joined l (suc n) h =
      let (S, nth) = below_nth l n (omega arith) in
      ap₂ (λ (x y : List ℕ). x ++ y) (shapes_joined l n (omega arith)) (ap (shape_line names predicates n) (nth_get_d (var 0) nth)) ∙ sym (shapes_more nth)

module _ (p : Program) where
  rows_append : (l m : List Entry) → row_lines p (l ++ m) ≡ row_lines p l ++ row_lines p m
  rows_append [] m = refl
  rows_append (e ∷ l) m =
      ap (λ (x : List ℕ). row_line p e.round e.row ++ x) (rows_append l m)
      ∙ sym (append_assoc (row_line p e.round e.row) (row_lines p l) (row_lines p m))

  -- one row more
  pub rows_more : {l : List Entry} {r : ℕ} {e : Entry} → Nth l r e → row_lines p (take (suc r) l) ≡ row_lines p (take r l) ++ row_line p e.round e.row
  rows_more {l} {r} {e} h =
      ap (row_lines p) (nth_take h) ∙ rows_append (take r l) (e ∷ [])
      ∙ ap (λ (x : List ℕ). row_lines p (take r l) ++ x) (append-nil (row_line p e.round e.row))

  pub rows_rest : (r : ℕ) (l : List Entry) → row_lines p (take r l) ++ row_lines p (drop r l) ≡ row_lines p l
  rows_rest r l = sym (rows_append (take r l) (drop r l)) ∙ ap (row_lines p) (take-append-drop r l)

  -- row number r of them
  abbrev pub row_text : List Entry → ℕ → List ℕ
  row_text l r = let e = get_or l r (record { round = 0; row = call 0 0 }) in row_line p e.round e.row

  pub rows_joined : (l : List Entry) (n : ℕ) → n ≤ length l → joined (row_text l) n ≡ row_lines p (take n l)
  rows_joined l zero h = refl
  rows_joined l (suc n) h =
      let (e, nth) = below_nth l n (omega arith) in
      ap₂ (λ (x y : List ℕ). x ++ y) (rows_joined l n (omega arith)) (ap (λ (f : Entry). row_line p f.round f.row) (nth_get_d _ nth)) ∙ sym (rows_more nth)

-- five words on, behind the first row's
behind_row : (e : Entry) (t rest : List ℕ) (j : ℕ) → get_or (entry_words e ++ t ++ rest) (suc (suc (suc (suc (suc j))))) 0 ≡ get_or (t ++ rest) j 0
behind_row e t rest j = at e.row
  where
    at : (row : Row ℕ) → get_or ((e.round ∷ row_words row) ++ t ++ rest) (suc (suc (suc (suc (suc j))))) 0 ≡ get_or (t ++ rest) j 0
    at (call s M) = refl
    at (cont n i M) = refl
    at (solution s M) = refl

-- the words of row r
module _ (rest : List ℕ) where
  abbrev pub word : List Entry → ℕ → ℕ
  word entries j = get_or (table_words entries ++ rest) j 0

  behind : (f : Entry) (entries : List Entry) (r k : ℕ) → word (f ∷ entries) (row_size * suc r + k) ≡ word entries (row_size * r + k)
  behind f entries r k =
      let n : row_size * suc r + k ≡ suc (suc (suc (suc (suc (row_size * r + k))))) = omega arith in
      rw n (behind_row f (table_words entries) rest (row_size * r + k))

  first_words : (e : Entry) (entries : List Entry) → (e.round ≡ word (e ∷ entries) 0)
      × (row_words e.row ≡ word (e ∷ entries) 1 ∷ word (e ∷ entries) 2 ∷ word (e ∷ entries) 3 ∷ word (e ∷ entries) 4 ∷ [])
  first_words e entries = at e.row
    where
      at : (row : Row ℕ) → (e.round ≡ get_or ((e.round ∷ row_words row) ++ table_words entries ++ rest) 0 0)
          × (row_words row ≡ get_or ((e.round ∷ row_words row) ++ table_words entries ++ rest) 1 0 ∷ get_or ((e.round ∷ row_words row) ++ table_words entries ++ rest) 2 0
          ∷ get_or ((e.round ∷ row_words row) ++ table_words entries ++ rest) 3 0 ∷ get_or ((e.round ∷ row_words row) ++ table_words entries ++ rest) 4 0 ∷ [])
      at (call s M) = (refl, refl)
      at (cont n i M) = (refl, refl)
      at (solution s M) = (refl, refl)

  pub entry_words_law : {entries : List Entry} {r : ℕ} {e : Entry} → Nth entries r e → (e.round ≡ word entries (row_size * r))
      × (row_words e.row ≡ word entries (row_size * r + 1) ∷ word entries (row_size * r + 2) ∷ word entries (row_size * r + 3) ∷ word entries (row_size * r + 4) ∷ [])
  entry_words_law (here {a = e} {rest = entries}) = first_words e entries
  entry_words_law (there {b = f} {rest = entries} {n = r} h) =
      let (a, b) = entry_words_law h in
      let z : row_size * suc r ≡ row_size * suc r + 0 = omega arith in
      let y : row_size * r + 0 ≡ row_size * r = omega arith in
      (a ∙ sym (ap (word (f ∷ entries)) z ∙ behind f entries r 0 ∙ ap (word entries) y), rw (behind f entries r 1, behind f entries r 2, behind f entries r 3, behind f entries r 4) b)

-- row r of the table is the entry's
abbrev pub row_in : {dir table : List ℕ} {rows : ℕ} (w : Tabled dir table rows) {r : ℕ} {e : Entry} → Nth w.entries r e → RowIn dir table r
row_in {table = table} w {r} {e} h =
    let (a, b) = entry_words_law w.rest h in
    record {
      words = w.words;
      p = w.p;
      setting = w.setting;
      round = e.round;
      row = e.row;
      regular = w.regular e (nth_member h);
      fits = omega (arith, nth_below h, ap length w.table_is ∙ length-append (table_words w.entries) w.rest, table_words_length w.entries);
      round_is = rw w.table_is a;
      row_is = rw w.table_is b;
    }

-- the row that the loop has come to
abbrev pub next_row : {dir table : List ℕ} {rows : ℕ} (w : Tabled dir table rows) (r : ℕ) → r < rows → (e : Entry) × Nth w.entries r e
next_row w r l = below_nth w.entries r (omega (arith, w.many))

-- and the shape
abbrev pub next_shape : {words dir names : List ℕ} (w : Spoken words dir names) (s count : ℕ) → count ≡ get_or dir shape_count 0 → s < count → ShapeAsked words dir names s
next_shape {words} {dir} w s count e l =
    let (S, h) = shape_under words w.p w.setting.accepted dir w.setting.directory s (rw e at l) in
    record { spoken = w; S = S; nth_shape = h }

-- sound names are those of the program's symbols
pub names_there : {words dir names table : List ℕ} {rows : ℕ} (w : ListingAsked words dir names table rows)
    → Named names (length w.tabled.p.predicates) (length w.tabled.p.functions)
names_there {names = names} w =
    let l = setting_within w.tabled.setting in
    record {
      few = omega (arith, l.predicates_most, l.functions_most);
      size = names_size names (length w.tabled.p.predicates) _ (ap (λ x. (names_reply x).number) w.named);
    }

abbrev pub spoken_of : {words dir names table : List ℕ} {rows : ℕ} → ListingAsked words dir names table rows → Spoken words dir names
spoken_of w = record { p = w.tabled.p; setting = rw w.words_are at w.tabled.setting; named = names_there w }
