-- A row by its words: its clause and place, or its shape, exist; the line of its words is the row's line.
use Prim.Native.Nat.{ℕ, suc, ◌+◌, ◌-◌, ◌*◌, ◌≤◌, ◌<◌}
use native.Mathlib.Omega.{arith}
use mathlib.Core.Path.{◌≡◌, sym, ap, ◌∙◌}
use mathlib.Core.Logic.Iff
use mathlib.Core.Logic.{◌⊎◌, inl, inr, ◌↔◌}
use mathlib.Core.List.{List, [], ◌∷◌, ◌++◌, append_assoc, append-nil}
use lib.ListN.{length, get_or}
use Rattle.terms.specs.Term.{Term, Occ}
use Rattle.terms.specs.Cells.{variables}
use Rattle.terms.specs.Mask.{Marks}
use Rattle.terms.proofs.Masks.{marks_for}
use Rattle.program.specs.declared.kind.Kind.{Kind}
use Rattle.program.specs.declared.kind.Kind.TheVariants.{Call, Solution}
use Rattle.program.specs.Kinds.{word_of}
use Rattle.program.specs.Program.{Nth, Clause, Program}
use Rattle.program.specs.Shapes.{shapes, Listed}
use Rattle.program.specs.Limits.{row_size, max_shapes}
use Rattle.program.proofs.ShapeLaws.{nth_get_d}
use Rattle.directory.specs.Layout.{body_list, clause_first, shape_vars, dir_words}
use Rattle.directory.specs.Directory.{Directory}
use Rattle.program.proofs.Nths.{nth_below}
use Rattle.table.specs.Rules.{Row, call, cont, solution}
use Rattle.table.specs.Table.{row_words}
use Rattle.table.specs.Keys.{Regular, regular_call, regular_cont, regular_solution}
use Rattle.steps.proofs.Meetings.{setting_within}
use Rattle.text.specs.Decimal.{decimal}
use Rattle.text.specs.Line.{tab, line_feed}
use Rattle.written_lines.specs.Tokens.{line}
use Rattle.listing_lines.specs.Letters.{occurs_in, is_listed, letters_of}
use Rattle.listing_lines.specs.Set.{in_set}
use Rattle.listing_lines.specs.Lines.{shape_at, clause_at, row_line}
use Rattle.listing_lines.specs.Asked.{kind_word, about_token, VariableOf, AboutRow, RowIn}
use Rattle.listing_lines.proofs.LetterLaws.{occurs_in_law, is_listed_law, set_letters}

-- a cont row's clause and place
pub record PlaceAt (p : Program) (row : Row ℕ) (a b : ℕ) : Type 0 where
  pub k : ℕ
  pub i : ℕ
  pub c : Clause
  pub A : Term
  pub nth_clause : Nth p.clauses k c
  pub nth_atom : Nth c.body i A
  pub clause_is : a ≡ suc k
  pub place_is : b ≡ suc i
  pub variables_are : (v : ℕ) → Listed c i v ↔ VariableOf p row v

-- any other row's shape
pub record ShapeOf (p : Program) (row : Row ℕ) (a : ℕ) : Type 0 where
  pub S : Term
  pub nth_shape : Nth (shapes p) a S
  pub variables_are : (v : ℕ) → Occ v S ↔ VariableOf p row v

shape_there : (p : Program) {row : Row ℕ} {a s : ℕ} {S : Term} → s ≡ a → Nth (shapes p) s S → ((v : ℕ) → Occ v (shape_at p s) ↔ VariableOf p row v) → ShapeOf p row a
shape_there p {S = S} e h same = record { S = S; nth_shape = rw e at h; variables_are = λ v. rw (nth_get_d _ h) at (same v) }

module _ {p : Program} {kind a b mask : ℕ} where
  by_place : {row : Row ℕ} → Regular p row → row_words row ≡ kind ∷ a ∷ b ∷ mask ∷ [] → kind ≡ 2 → PlaceAt p row a b
  by_place (regular_call hs m l) e two = absurd (let z : ◌≡◌ {A = ℕ} 1 2 = cc in omega arith)
  by_place (regular_cont {k = k} {i = i} {c = c} {A = A} hc hA m l) e two =
      record {
        k = k;
        i = i;
        c = c;
        A = A;
        nth_clause = hc;
        nth_atom = hA;
        clause_is = cc;
        place_is = cc;
        variables_are = λ v.
            let n : suc k - 1 ≡ k = omega arith in
            let j : suc i - 1 ≡ i = omega arith in
            rw (n, j, nth_get_d _ hc) Iff.rfl;
      }
  by_place (regular_solution hs m l) e two = absurd (let z : ◌≡◌ {A = ℕ} 3 2 = cc in omega arith)

  by_shape : {row : Row ℕ} → Regular p row → row_words row ≡ kind ∷ a ∷ b ∷ mask ∷ [] → (kind ≡ 2 → ⊥) → ShapeOf p row a
  by_shape (regular_call hs m l) e other = shape_there p (cc) hs (λ v. Iff.rfl)
  by_shape (regular_cont hc hA m l) e other = absurd (other (cc))
  by_shape (regular_solution hs m l) e other = shape_there p (cc) hs (λ v. Iff.rfl)

module _ {dir : List ℕ} {kind a b : ℕ} (w : AboutRow dir kind a b) where
  abbrev d : Directory w.words w.p dir
  d = w.setting.directory

  pub every_word : length dir ≡ dir_words
  every_word = d.size

  module _ (two : kind ≡ 2) where
    at : PlaceAt w.p w.row a b
    at = by_place w.regular w.row_is two

    pub clause_there : (1 ≤ a) × (a ≤ 64) × (1 ≤ b)
    unfolding at
    clause_there = (omega (arith, at.clause_is), omega (arith, at.clause_is, nth_below at.nth_clause, (setting_within w.setting).clauses_most), omega (arith, at.place_is))

    -- the list of its place stands in the directory
    pub list_there : (x first y : ℕ) → x ≡ a → first ≡ get_or dir (clause_first + (x - 1)) 0 → y ≡ b
        → (body_list + first + (y - 1) < length dir) × Marks (VariableOf w.p w.row) (get_or dir (body_list + first + (y - 1)) 0)
    unfolding at
    list_there x first y x-is first_is y-is =
        let k : x - 1 ≡ at.k = omega (arith, at.clause_is) in
        let f : first ≡ get_or dir (clause_first + at.k) 0 = first_is ∙ ap (λ (n : ℕ). get_or dir (clause_first + n) 0) k in
        let body = d.body at.nth_clause at.nth_atom in
        let s : body_list + first + (y - 1) ≡ body_list + (get_or dir (clause_first + at.k) 0 + at.i) = omega (arith, at.place_is) in
        rw s (omega (arith, body.within, d.bodies_most, d.size), marks_for _ at.variables_are body.list)

  module _ (other : kind ≡ 2 → ⊥) where
    of : ShapeOf w.p w.row a
    of = by_shape w.regular w.row_is other

    -- its shape's variables are the first so many
    pub first_there : (x n : ℕ) → x ≡ a → n ≡ get_or dir (shape_vars + x) 0
        → (n ≤ variables) × ((set : ℕ) → Marks (λ v. v < n) set → Marks (VariableOf w.p w.row) set)
    unfolding of
    first_there x n x-is n-is =
        let shape = d.shape of.nth_shape in
        let e : n ≡ get_or dir (shape_vars + a) 0 = n-is ∙ ap (λ (y : ℕ). get_or dir (shape_vars + y) 0) x-is in
        rw e (shape.few, λ set marks. marks_for set of.variables_are (marks_for set (λ v. ((shape.shape_variables v).1, (shape.shape_variables v).0)) marks))

    pub shape_few : a < max_shapes
    unfolding of
    shape_few = omega (arith, nth_below of.nth_shape, d.shape_count_law, d.shapes_most)

-- row r of the table, by its words
abbrev pub about_row : {dir table : List ℕ} {r : ℕ} → RowIn dir table r
    → AboutRow dir (get_or table (row_size * r + 1) 0) (get_or table (row_size * r + 2) 0) (get_or table (row_size * r + 3) 0)
about_row w = record { words = w.words; p = w.p; setting = w.setting; row = w.row; regular = w.regular; mask = _; row_is = w.row_is }

-- the number of a call or of a solution is not a cont's
pub no_cont : (kind : Kind) → (kind ≡ Call) ⊎ (kind ≡ Solution) → word_of kind ≡ 2 → ⊥
no_cont kind (inl e) two = let one_two : ◌≡◌ {A = ℕ} 1 2 = rw e at two in omega (arith, one_two)
no_cont kind (inr e) two = let three_two : ◌≡◌ {A = ℕ} 3 2 = rw e at two in omega (arith, three_two)

-- the kind of a row's words is one of the three
pub kind_known : {kind a b mask : ℕ} (row : Row ℕ) → row_words row ≡ kind ∷ a ∷ b ∷ mask ∷ [] → (1 ≤ kind) × (kind ≤ 3)
kind_known {kind} (call s M) e = let k : kind ≡ 1 = cc in (omega (arith, k), omega (arith, k))
kind_known {kind} (cont n i M) e = let k : kind ≡ 2 = cc in (omega (arith, k), omega (arith, k))
kind_known {kind} (solution s M) e = let k : kind ≡ 3 = cc in (omega (arith, k), omega (arith, k))

-- the fields of a row's line, one behind another
pub three_fields : (word a b c : List ℕ) → word ++ (tab ∷ a ++ (tab ∷ b ++ (tab ∷ c ++ line_feed ∷ []))) ≡ line word (a ∷ b ∷ c ∷ [])
three_fields word a b c =
    let end : List ℕ = line_feed ∷ [] in
    sym (append_assoc word (tab ∷ (a ++ (tab ∷ (b ++ (tab ∷ (c ++ [])))))) end
    ∙ ap (λ (l : List ℕ). word ++ (tab ∷ l)) (append_assoc a (tab ∷ (b ++ (tab ∷ (c ++ [])))) end
    ∙ ap (λ (l : List ℕ). a ++ (tab ∷ l)) (append_assoc b (tab ∷ (c ++ [])) end
    ∙ ap (λ (l : List ℕ). b ++ (tab ∷ l)) (append_assoc c [] end))))

-- the line of a row's words is the row's line
pub row_line_is : (p : Program) (row : Row ℕ) (round kind a b mask set : ℕ) → row_words row ≡ kind ∷ a ∷ b ∷ mask ∷ [] → Marks (VariableOf p row) set
    → line (kind_word kind) (decimal round ∷ about_token kind a b ∷ letters_of (in_set set) mask ∷ []) ≡ row_line p round row
row_line_is p (call s M) round kind a b mask set e marks =
    let k : kind ≡ 1 = cc in
    let x : a ≡ s = cc in
    let m : mask ≡ M = cc in
    rw (k, x, m, set_letters (occurs_in (shape_at p s)) set M (occurs_in_law (shape_at p s)) marks, append-nil (decimal s))
row_line_is p (cont n i M) round kind a b mask set e marks =
    let k : kind ≡ 2 = cc in
    let x : a ≡ n = cc in
    let y : b ≡ i = cc in
    let m : mask ≡ M = cc in
    rw (k, x, y, m, set_letters (is_listed (clause_at p n) (i - 1)) set M (is_listed_law (clause_at p n) (i - 1)) marks)
row_line_is p (solution s M) round kind a b mask set e marks =
    let k : kind ≡ 3 = cc in
    let x : a ≡ s = cc in
    let m : mask ≡ M = cc in
    rw (k, x, m, set_letters (occurs_in (shape_at p s)) set M (occurs_in_law (shape_at p s)) marks, append-nil (decimal s))
