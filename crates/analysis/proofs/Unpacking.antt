-- Rows unpacked: a row's words from its slot, and the rows passed as entries.
use Prim.Native.Nat.{ℕ, suc, ◌+◌, ◌-◌, ◌*◌, ◌≤◌, ◌<◌}
use native.Mathlib.Omega.{arith}
use mathlib.Core.Path.{◌≡◌, refl, sym, ap, ◌∙◌}
use mathlib.Core.List.{List, [], ◌∷◌, ◌++◌, append_assoc, append-nil}
use lib.ListN.{length, get_or, set, take, drop}
use lib.Seq.{length-take-le, take-length, drop-cons, get_or-append-add, get_or-drop}
use Rattle.program.specs.Program.{Nth, here, there, Program}
use Rattle.program.specs.Limits.{row_size}
use Rattle.program.proofs.Nths.{below_nth}
use Rattle.rows.specs.Rows.{slot_at, mask_at}
use Rattle.table.specs.Rules.{Row, call, cont, solution}
use Rattle.table.specs.Table.{Entry, row_words, entry_words, table_words, mask}
use Rattle.table.specs.Keys.{Regular, regular_call, regular_cont, regular_solution, slot_of, first_cont, first_solution}
use Rattle.table.proofs.Promise.{table_words_length, table_words_append}
use Rattle.steps.specs.Situation.{Setting, BodyOf}
use Rattle.concerns.specs.Standing.{Stands}
use Rattle.concerns.proofs.BodyClauses.{shapes_below, bodies_below}
use Rattle.analysis.specs.Unpacked.{with_words, with_row, Packed}

-- a row of a slot: its kind by where the slot stands
module _ {words dir : List ℕ} {p : Program} (s : Setting words dir p) (table : List ℕ) (r : ℕ) where
  pub as_call : (row : Row ℕ) → Regular p row → (slot m : ℕ) → slot ≡ slot_of p row → m ≡ mask row → slot < first_cont → with_words table r 1 slot 0 m ≡ with_row table r row
  as_call _ (regular_call hs w l) slot m e f h = rw (e, f) refl
  as_call _ (regular_cont hc hA w l) slot m e f h = absurd (omega arith)
  as_call _ (regular_solution hs w l) slot m e f h = absurd (omega arith)

  pub as_solution : (row : Row ℕ) → Regular p row → (slot m : ℕ) → slot ≡ slot_of p row → m ≡ mask row → first_solution ≤ slot → with_words table r 3 (slot - first_solution) 0 m ≡ with_row table r row
  as_solution _ (regular_call hs w l) slot m e f h = absurd (omega (arith, shapes_below s hs))
  as_solution _ (regular_cont hc hA w l) slot m e f h = absurd (omega (arith, bodies_below s hc hA))
  as_solution _ (regular_solution {s = n} hs w l) slot m e f h = let d : slot - first_solution ≡ n = omega arith in rw (d, f) refl

  pub as_cont : (row : Row ℕ) → Regular p row → (slot m j k i : ℕ) → slot ≡ slot_of p row → m ≡ mask row → first_cont ≤ slot → slot < first_solution → j ≡ slot - first_cont
      → ((b : BodyOf p j) → (k ≡ b.k) × (i ≡ b.i)) → with_words table r 2 (k + 1) (i + 1) m ≡ with_row table r row
  as_cont _ (regular_call hs w l) slot m j k i e f h h' body found = absurd (omega (arith, shapes_below s hs))
  as_cont _ (regular_cont {k = k'} {i = i'} {c = c} {A = A} hc hA w l) slot m j k i e f h h' body found =
      let (d, d') = found (record { k = k'; i = i'; c = c; A = A; nth_clause = hc; nth_atom = hA; is = omega arith }) in
      let a : k + 1 ≡ suc k' = omega arith in
      let b : i + 1 ≡ suc i' = omega arith in
      rw (a, b, f) refl
  as_cont _ (regular_solution hs w l) slot m j k i e f h h' body found = absurd (omega arith)

-- writing behind a list
set_behind : (P Q : List ℕ) (j v : ℕ) → set (P ++ Q) (length P + j) v ≡ P ++ set Q j v
set_behind [] Q j v = let e : 0 + j ≡ j = omega arith in rw e refl
set_behind (x ∷ P) Q j v = let e : length (x ∷ P) + j ≡ suc (length P + j) = omega arith in rw e (ap (λ (l : List ℕ). x ∷ l) (set_behind P Q j v))

-- five words that stand at a place
five_words : (t : List ℕ) (i : ℕ) → i + 5 ≤ length t
    → drop i t ≡ get_or t i 0 ∷ get_or t (i + 1) 0 ∷ get_or t (i + 2) 0 ∷ get_or t (i + 3) 0 ∷ get_or t (i + 4) 0 ∷ drop (i + 5) t
five_words t i l =
    let a : suc i ≡ i + 1 = omega arith in
    let b : suc (i + 1) ≡ i + 2 = omega arith in
    let c : suc (i + 2) ≡ i + 3 = omega arith in
    let d : suc (i + 3) ≡ i + 4 = omega arith in
    let e : suc (i + 4) ≡ i + 5 = omega arith in
    let d₀ = rw a at (drop-cons t i 0 (omega arith)) in
    let d₁ = rw b at (drop-cons t (i + 1) 0 (omega arith)) in
    let d₂ = rw c at (drop-cons t (i + 2) 0 (omega arith)) in
    let d₃ = rw d at (drop-cons t (i + 3) 0 (omega arith)) in
    let d₄ = rw e at (drop-cons t (i + 4) 0 (omega arith)) in
    cc (d₀, d₁, d₂, d₃, d₄)

take_next : {A : Type 0} {l : List A} {i : ℕ} {a : A} → Nth l i a → take (suc i) l ≡ take i l ++ a ∷ []
take_next here = refl
take_next (there {b = b} h) = ap (λ x. b ∷ x) (take_next h)

-- a row's words behind those of the rows before it
row_words_law : (P Q : List ℕ) (r a b c d f : ℕ) (row : Row ℕ) → length P ≡ row_size * r
    → with_row (P ++ (a ∷ b ∷ c ∷ d ∷ f ∷ Q)) r row ≡ P ++ ((a ∷ row_words row) ++ Q)
row_words_law P Q r a b c d f row e = at row
  where
    write : (kind x y m : ℕ) → with_words (P ++ (a ∷ b ∷ c ∷ d ∷ f ∷ Q)) r kind x y m ≡ P ++ (a ∷ kind ∷ x ∷ y ∷ m ∷ Q)
    write kind x y m =
        rw (← e)
        (rw (set_behind P (a ∷ b ∷ c ∷ d ∷ f ∷ Q) 1 kind, set_behind P (a ∷ kind ∷ c ∷ d ∷ f ∷ Q) 2 x, set_behind P (a ∷ kind ∷ x ∷ d ∷ f ∷ Q) 3 y, set_behind P (a ∷ kind ∷ x ∷ y ∷ f ∷ Q) 4 m)
        refl)

    at : (row : Row ℕ) → with_row (P ++ (a ∷ b ∷ c ∷ d ∷ f ∷ Q)) r row ≡ P ++ ((a ∷ row_words row) ++ Q)
    at (call s M) = write 1 s 0 M
    at (cont n i M) = write 2 n i M
    at (solution s M) = write 3 s 0 M

-- the rows passed are entries, the others as they were
module _ (words dir table₀ : List ℕ) (n : ℕ) (w : Packed words dir table₀ n) where
  abbrev pub Passed : ℕ → List ℕ → Type 0
  Passed i table = table ≡ table_words (take i w.entries) ++ drop (row_size * i) table₀

  words_passed : (i : ℕ) → i ≤ n → length (table_words (take i w.entries)) ≡ row_size * i
  words_passed i l = table_words_length (take i w.entries) ∙ ap (λ (x : ℕ). row_size * x) (length-take-le i w.entries (omega (arith, w.many)))

  pub entry_at : (i : ℕ) → i < n → (e : Entry) × Nth w.entries i e
  entry_at i l = below_nth w.entries i (omega (arith, w.many))

  module _ (i : ℕ) (l : i < n) (table : List ℕ) (passed : Passed i table) where
    same_word : (j : ℕ) → get_or table (row_size * i + j) 0 ≡ get_or table₀ (row_size * i + j) 0
    same_word j =
        let e = words_passed i (omega arith) in
        let a = get_or-append-add {A = ℕ} (table_words (take i w.entries)) (drop (row_size * i) table₀) j 0 in
        let b : get_or (table_words (take i w.entries) ++ drop (row_size * i) table₀) (row_size * i + j) 0 ≡ get_or (drop (row_size * i) table₀) j 0 = rw e at a in
        rw passed (b ∙ get_or-drop (row_size * i) table₀ j 0)

    pub slot_same : slot_at table i ≡ slot_of w.p (entry_at i l).0.row
    slot_same = same_word 1 ∙ (w.each i (entry_at i l).0 (entry_at i l).1).2

    pub mask_same : mask_at table i ≡ mask (entry_at i l).0.row
    mask_same = same_word 2 ∙ (w.each i (entry_at i l).0 (entry_at i l).1).3

    abbrev pub row_stands : Stands words dir table i
    row_stands =
        record {
          p = w.p;
          setting = w.setting;
          row = (entry_at i l).0.row;
          regular = (w.each i (entry_at i l).0 (entry_at i l).1).0;
          slot = slot_same;
          its_mask = mask_same;
        }

    pub row_passed : (table' : List ℕ) → table' ≡ with_row table i (entry_at i l).0.row → Passed (i + 1) table'
    row_passed table' written =
        let (e, he) = entry_at i l in
        let P = table_words (take i w.entries) in
        let f = five_words table₀ (row_size * i) (omega (arith, w.fits)) in
        let g : row_size * i + 5 ≡ row_size * (i + 1) = omega arith in
        let o : i + 1 ≡ suc i = omega arith in
        let t : table_words (take (i + 1) w.entries) ≡ P ++ entry_words e = rw (o, take_next he) (table_words_append (take i w.entries) (e ∷ []) ∙ ap (λ (x : List ℕ). P ++ x) (append-nil (entry_words e))) in
        let r = row_words_law P (drop (row_size * i + 5) table₀) i (get_or table₀ (row_size * i) 0) (get_or table₀ (row_size * i + 1) 0) (get_or table₀ (row_size * i + 2) 0) (get_or table₀ (row_size * i + 3) 0) (get_or table₀ (row_size * i + 4) 0) e.row (words_passed i (omega arith)) in
        let round : get_or table₀ (row_size * i) 0 ≡ e.round = (w.each i e he).1 in
        let whole : table ≡ P ++ (get_or table₀ (row_size * i) 0 ∷ get_or table₀ (row_size * i + 1) 0 ∷ get_or table₀ (row_size * i + 2) 0 ∷ get_or table₀ (row_size * i + 3) 0 ∷ get_or table₀ (row_size * i + 4) 0 ∷ drop (row_size * i + 5) table₀) = passed ∙ ap (λ (x : List ℕ). P ++ x) f in
        written ∙ ap (λ (x : List ℕ). with_row x i e.row) whole ∙ r
        ∙ ap (λ (x : ℕ). P ++ ((x ∷ row_words e.row) ++ drop (row_size * i + 5) table₀)) round
        ∙ sym (append_assoc P (entry_words e) (drop (row_size * i + 5) table₀))
        ∙ ap (λ (x : List ℕ). x ++ drop (row_size * i + 5) table₀) (sym t)
        ∙ ap (λ (x : ℕ). table_words (take (i + 1) w.entries) ++ drop x table₀) g

  pub passed_none : Passed 0 table₀
  passed_none = refl

  pub passed_all : (i : ℕ) (table : List ℕ) → i ≤ n → n ≤ i → Passed i table → table ≡ table_words w.entries ++ drop (row_size * n) table₀
  passed_all i table a b passed =
      let e : i ≡ n = omega arith in
      let t : take n w.entries ≡ w.entries = rw (← w.many) (take-length w.entries) in
      rw (e, t) at passed
