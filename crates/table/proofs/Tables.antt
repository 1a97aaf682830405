-- Laws of the table of an analysis that computes: there is one table, its rows are the least set, each once and with a round below their number; and the rows of the last round are a table.
use Prim.Native.Nat.{ℕ, suc, ◌-◌, ◌≤◌, ◌<◌}
use native.Mathlib.Omega.{arith}
use native.Mathlib.Decide.{dec_le}
use mathlib.Core.Path.{◌≡◌, refl, sym, ap, subst, ◌∙◌}
use mathlib.Core.Logic.{◌⊎◌, inl, inr, ◌↔◌}
use mathlib.Core.List.Memᴰ
use mathlib.Core.List.{List, [], ◌∷◌, ◌++◌, append_assoc, map, Memᴰ}
use lib.ListN.{length, take, drop, length-map}
use lib.Seq.{take_at, drop_at}
use Rattle.table.specs.Rounds.{InRound, FirstIn, LeastOf, InSome}
use Rattle.table.specs.Analysis.{Analysis, Dated, all_words, Ascends, StandsAmong, IsTable, Exceeds}
use Rattle.program.specs.Lists.{Distinct}
use Rattle.table.proofs.Lists.{has_map}
use Rattle.table.proofs.Distinct.{distinct_length, distinct_map}
use Rattle.table.proofs.RulesOf.{Within, Finitary}
use Rattle.table.proofs.RoundsOf.{grows, one_first, stays, first_of, least_some}
use Rattle.table.proofs.RoundCount.{round_below_count}
use Rattle.table.proofs.ComputedRounds.{rows_in, rows_distinct, computed_in, decided_in, Stops, computed_stops, stop_or_many, round_of, round_of_first}
use Rattle.table.proofs.Ordering.{ascends_same, ascends_distinct, sort}

-- what is asked of an analysis so that its promise is met, and by one table: its rules use finitely many rows, what they give from a list of rows can be listed,
-- all rows have `size` words with their round, and a row is read back from its words
pub record Computes (A : Analysis) : Type 1 where
  pub finitary : Finitary A.Rules
  pub same : Discrete A.Row
  pub given : List A.Row → List A.Row
  pub given_all : (rows : List A.Row) (row : A.Row) → Memᴰ row (given rows) ↔ A.Rules (λ r. Memᴰ r rows) row
  pub sized : (row : A.Row) → suc (length (A.words row)) ≡ A.size
  pub one_row : (r r' : A.Row) → A.words r ≡ A.words r' → r ≡ r'

-- there is one table
pub one_table : (A : Analysis) (es fs : List (Dated A.Row)) → IsTable A es → IsTable A fs → es ≡ fs
one_table A es fs t u =
    ascends_same A.words es fs t.ascending u.ascending (λ e m. u.all e.round e.row (t.only e m)) (λ e m. t.all e.round e.row (u.only e m))

module _ (A : Analysis) (c : Computes A) where
  decide : (k : ℕ) (row : A.Row) → Dec (InRound A.start A.Rules k row)
  decide = decided_in c.same A.start c.given A.Rules c.finitary c.given_all

  -- a row of the least set has a round
  pub some_first : (row : A.Row) → InSome A.start A.Rules row → (k : ℕ) × FirstIn A.start A.Rules k row
  some_first row (k, r) = let (j, l, f) = first_of A.start A.Rules c.finitary decide k row r in (j, f)

  module _ (entries : List (Dated A.Row)) (t : IsTable A entries) where
    abbrev pub rows_of : List A.Row
    rows_of = map (λ (e : Dated A.Row). e.row) entries

    some_listed : (row : A.Row) → InSome A.start A.Rules row → Memᴰ row rows_of
    some_listed row a = let (k, f) = some_first row a in Memᴰ.map (λ (e : Dated A.Row). e.row) (t.all k row f)

    listed_some : (row : A.Row) → Memᴰ row rows_of → InSome A.start A.Rules row
    listed_some row m = let (e, h, d) = has_map (λ (e : Dated A.Row). e.row) entries m in rw d (e.round, (t.only e h).0)

    -- "accepted programs have exactly the least set"
    pub least_listed : (row : A.Row) → LeastOf A.start A.Rules row ↔ Memᴰ row rows_of
    least_listed row =
        let l = least_some A.start A.Rules c.finitary row in (λ least. some_listed row (l.0 least), λ m. l.1 (listed_some row m))

    -- "A row appears once"
    pub rows_once : Distinct rows_of
    rows_once = distinct_map (λ (e : Dated A.Row). e.row) entries (ascends_distinct A.words entries t.ascending) same
      where
        same : (e f : Dated A.Row) → Memᴰ e entries → Memᴰ f entries → e.row ≡ f.row → e ≡ f
        same e f m n d =
            let k = one_first A.start A.Rules e.round f.round f.row (rw d at (t.only e m).0, rw d at (t.only e m).1) (t.only f n) in
            λ i. record { round = k i; row = d i }

    -- "and its round is below the number of rows"
    pub rounds_below : (e : Dated A.Row) → Memᴰ e entries → e.round < length entries
    rounds_below e m =
        round_below_count A.start A.Rules c.finitary decide entries (λ (f : Dated A.Row). f.round)
        (λ j row f. (record { round = j; row = row }, t.all j row f, refl)) e.round e.row (t.only e m)

    -- the least set has more than n rows exactly where the table has
    pub exceeds_length : (n : ℕ) → Exceeds A n ↔ (n < length entries)
    exceeds_length n = (more, fewer)
      where
        more : Exceeds A n → n < length entries
        more h = omega (arith, h.more, rw length-map at (distinct_length h.rows rows_of h.distinct (λ row m. some_listed row (h.appear row m))))

        fewer : n < length entries → Exceeds A n
        fewer l = record { rows = rows_of; distinct = rows_once; appear = listed_some; more = rw length-map l }

    -- a table that has room, and one that has not, shut each other out
    pub fits_or_exceeds : (n : ℕ) → length entries ≤ n → Exceeds A n → ⊥
    fits_or_exceeds n l h = let more = (exceeds_length n).0 h in omega arith

-- the rows that stand in the words of a table are exactly the rows of the least set
module _ (A : Analysis) (c : Computes A) where
  first_row : (k : ℕ) (row : A.Row) (words rest : List ℕ) → take (A.size - 1) (drop 1 (((k ∷ A.words row) ++ words) ++ rest)) ≡ A.words row
  first_row k row words rest =
      ap (take (A.size - 1)) (append_assoc (A.words row) words rest) ∙ take_at (A.words row) (words ++ rest) (A.size - 1) (omega (arith, c.sized row))

  rows_behind : (k : ℕ) (row : A.Row) (words rest : List ℕ) → drop A.size (((k ∷ A.words row) ++ words) ++ rest) ≡ words ++ rest
  rows_behind k row words rest = ap (drop A.size) (append_assoc (k ∷ A.words row) words rest) ∙ drop_at (k ∷ A.words row) (words ++ rest) A.size (c.sized row)

  entry_stands : (entries : List (Dated A.Row)) (rest : List ℕ) (e : Dated A.Row) → Memᴰ e entries
      → StandsAmong A.words A.size (length entries) (all_words A.words entries ++ rest) e.row
  entry_stands [] rest e m = absurd (Memᴰ.not-nil m)
  entry_stands (f ∷ entries) rest e m = first (λ h. entry_stands entries rest e h) (Memᴰ.cases_cons m)
    where
      first : (Memᴰ e entries → StandsAmong A.words A.size (length entries) (all_words A.words entries ++ rest) e.row) → (e ≡ f) ⊎ Memᴰ e entries
          → StandsAmong A.words A.size (length (f ∷ entries)) (all_words A.words (f ∷ entries) ++ rest) e.row
      first behind (inl d) = inl (rw d (first_row f.round f.row (all_words A.words entries) rest))
      first behind (inr m') = inr (rw (rows_behind f.round f.row (all_words A.words entries) rest) (behind m'))

  stands_entry : (entries : List (Dated A.Row)) (rest : List ℕ) (row : A.Row) → StandsAmong A.words A.size (length entries) (all_words A.words entries ++ rest) row
      → (e : Dated A.Row) × Memᴰ e entries × (e.row ≡ row)
  stands_entry [] rest row s = absurd s
  stands_entry (f ∷ entries) rest row (inl d) =
      (f, Memᴰ.head refl, c.one_row f.row row (sym (first_row f.round f.row (all_words A.words entries) rest) ∙ d))
  stands_entry (f ∷ entries) rest row (inr s) =
      let (e, m, d) = stands_entry entries rest row (rw (rows_behind f.round f.row (all_words A.words entries) rest) at s) in (e, Memᴰ.tail m, d)

  pub stands_least : (entries : List (Dated A.Row)) (rest : List ℕ) → IsTable A entries → (row : A.Row)
      → StandsAmong A.words A.size (length entries) (all_words A.words entries ++ rest) row ↔ LeastOf A.start A.Rules row
  stands_least entries rest t row = (to, from)
    where
      to : StandsAmong A.words A.size (length entries) (all_words A.words entries ++ rest) row → LeastOf A.start A.Rules row
      to s = let (e, m, d) = stands_entry entries rest row s in rw (← d) ((least_some A.start A.Rules c.finitary e.row).1 (e.round, (t.only e m).0))

      from : LeastOf A.start A.Rules row → StandsAmong A.words A.size (length entries) (all_words A.words entries ++ rest) row
      from l =
          let (k, f) = some_first A c row ((least_some A.start A.Rules c.finitary row).0 l) in
          entry_stands entries rest (record { round = k; row = row }) (t.all k row f)

-- entries of the rounds up to the last, in ascending order, are the table
pub last_is_table : (A : Analysis) → Finitary A.Rules → (k : ℕ) → Within (InRound A.start A.Rules (suc k)) (InRound A.start A.Rules k)
    → (entries : List (Dated A.Row)) → Ascends A.words entries
    → ((e : Dated A.Row) → Memᴰ e entries ↔ ((e.round ≤ k) × FirstIn A.start A.Rules e.round e.row)) → IsTable A entries
last_is_table A finitary k stop entries ascending each = record { ascending = ascending; all = λ j row f. at j row f (dec_le j k); only = λ e m. ((each e).0 m).1 }
  where
    at : (j : ℕ) (row : A.Row) → FirstIn A.start A.Rules j row → Dec (j ≤ k) → Memᴰ (record { round = j; row = row }) entries
    at j row f (yes l) = (each (record { round = j; row = row })).1 (l, f)
    at j row f (no g) = absurd (f.1 k (omega arith) (stays A.start A.Rules finitary k stop j row f.0))

-- so the table of a small program is computed
module _ (A : Analysis) (c : Computes A) where
  abbrev pub computed_rows : ℕ → List A.Row
  computed_rows = rows_in c.same A.start c.given

  abbrev Last : ℕ → Type 0
  Last = Stops c.same A.start c.given A.Rules c.finitary c.given_all

  abbrev round_in : ℕ → A.Row → ℕ
  round_in = round_of c.same A.start c.given A.Rules c.finitary c.given_all

  in_round : (k : ℕ) (row : A.Row) → Memᴰ row (computed_rows k) ↔ InRound A.start A.Rules k row
  in_round = computed_in c.same A.start c.given A.Rules c.finitary c.given_all

  in_round_first : (k : ℕ) (row : A.Row) → InRound A.start A.Rules k row → (round_in k row ≤ k) × FirstIn A.start A.Rules (round_in k row) row
  in_round_first = round_of_first c.same A.start c.given A.Rules c.finitary c.given_all

  -- the entries of the rounds up to k, and in ascending order
  abbrev pub entries_at : ℕ → List (Dated A.Row)
  entries_at k = map (λ row. record { round = round_in k row; row = row }) (computed_rows k)

  abbrev pub computed_table : ℕ → List (Dated A.Row)
  computed_table k = (sort A.words c.sized c.one_row (entries_at k)).0

  entries_rounded : (k : ℕ) (e : Dated A.Row) → Memᴰ e (entries_at k) ↔ ((e.round ≤ k) × FirstIn A.start A.Rules e.round e.row)
  entries_rounded k e = (to, λ (l, f). from l f)
    where
      to : Memᴰ e (entries_at k) → (e.round ≤ k) × FirstIn A.start A.Rules e.round e.row
      to m =
          let (row, m', d) = has_map (λ row. record { round = round_in k row; row = row }) (computed_rows k) m in
          rw d (in_round_first k row ((in_round k row).0 m'))

      from : e.round ≤ k → FirstIn A.start A.Rules e.round e.row → Memᴰ e (entries_at k)
      from l f =
          let r = grows A.start A.Rules k e.round l e.row f.0 in
          let d = one_first A.start A.Rules e.round (round_in k e.row) e.row f (in_round_first k e.row r).1 in
          Memᴰ.cast (λ i. record { round = d i; row = e.row }) (Memᴰ.map (λ row. record { round = round_in k row; row = row }) ((in_round k e.row).1 r))

  stops_table : (k : ℕ) → Last k → IsTable A (computed_table k)
  stops_table k stops =
      let s = (sort A.words c.sized c.one_row (entries_at k)).1 in
      last_is_table A c.finitary k stops (computed_table k) s.ascending
      (λ e. (λ m. (entries_rounded k e).0 ((s.has e).0 m), λ h. (s.has e).1 ((entries_rounded k e).1 h)))

  pub computed_is_table : (k : ℕ) (entries : List (Dated A.Row)) → computed_rows (suc k) ≡ computed_rows k → computed_table k ≡ entries → IsTable A entries
  computed_is_table k entries e d =
      subst (IsTable A) d (stops_table k (computed_stops c.same A.start c.given A.Rules c.finitary c.given_all k e))

  -- there is a table, or the least set has more than n rows
  pub table_or_exceeds : (n : ℕ) → ((entries : List (Dated A.Row)) × IsTable A entries) ⊎ Exceeds A n
  table_or_exceeds n = at (stop_or_many c.same A.start c.given A.Rules c.finitary c.given_all n)
    where
      at : ((k : ℕ) × Last k) ⊎ (n < length (computed_rows n)) → ((entries : List (Dated A.Row)) × IsTable A entries) ⊎ Exceeds A n
      at (inl (k, stops)) = inl (computed_table k, stops_table k stops)
      at (inr h) = inr record {
        rows = computed_rows n;
        distinct = rows_distinct c.same A.start c.given n;
        appear = λ row m. (n, (in_round n row).0 m);
        more = h;
      }
