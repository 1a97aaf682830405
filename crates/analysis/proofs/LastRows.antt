-- The rows of the last round in ascending order are the table of the program.
use Prim.Native.Nat.{ℕ, zero, suc, ◌+◌, ◌*◌, ◌≤◌, ◌<◌}
use native.Mathlib.Omega.{arith}
use native.Mathlib.Decide.{dec_le, ℕ_discrete}
use mathlib.Core.Path.{◌≡◌, refl, sym, ap, subst, ◌∙◌}
use mathlib.Core.Logic.{◌⊎◌, inl, inr}
use mathlib.Core.List.Memᴰ
use mathlib.Core.List.{List, [], ◌∷◌, ◌++◌, Memᴰ}
use lib.ListN.{length, get_or, length-append}
use Rattle.marks.specs.Modes.{modes}
use Rattle.program.specs.Program.{Nth, here, Program}
use Rattle.program.specs.Limits.{row_size}
use Rattle.program.proofs.ShapeLaws.{nth_same}
use Rattle.program.proofs.ProgramWords.{sound_within}
use Rattle.program.proofs.Nths.{nth_below, nth_left, nth_right}
use Rattle.rows.specs.Rows.{round_at, slot_at, mask_at, key_at}
use Rattle.order.specs.Ordered.{order_at, Sorted}
use Rattle.rows.proofs.Keys.{key_slot, key_mask, key_listed, listed_key}
use Rattle.order.proofs.Sorting.{key_before, reordered_keys, reordered_distinct, ascending_strictly}
use Rattle.table.specs.Rules.{Row}
use Rattle.table.specs.Rounds.{At, First}
use Rattle.table.specs.Table.{Entry, entry_words, Ascending, TableOf, mask}
use Rattle.table.specs.Analysis.{Before}
use Rattle.table.specs.Keys.{row_key, row_of, slot_of, Few, Regular}
use Rattle.table.specs.RoundKeys.{Rounded}
use Rattle.table.proofs.RoundLaws.{rounds_grow, first_once}
use Rattle.table.proofs.ShapeVariables.{within_few}
use Rattle.table.proofs.Regular.{at_regular}
use Rattle.table.proofs.Keys.{row_of_key, entry_before, mask_small}
use Rattle.table.proofs.Promise.{ascending_append}
use Rattle.table.proofs.RoundEntries.{rounded_table}
use Rattle.table.proofs.RoundKeys.{keyed_row}
use Rattle.steps.specs.Situation.{Setting}
use Rattle.rounds.specs.Rounds.{Complete}
use Rattle.analysis.specs.Unpacked.{Packed}

-- the entries of the first n rows
module _ (p : Program) (table : List ℕ) where
  abbrev pub entry_at : ℕ → Entry
  entry_at r = record { round = round_at table r; row = row_of p (key_at table r) }

  abbrev pub entries_of : ℕ → List Entry
  entries_of zero = []
  entries_of (suc n) = entries_of n ++ entry_at n ∷ []

  entries_many : (n : ℕ) → length (entries_of n) ≡ n
  entries_many zero = refl
  entries_many (suc n) = length-append (entries_of n) (entry_at n ∷ []) ∙ omega (arith, entries_many n)

  entry_listed : (n r : ℕ) → r < n → Memᴰ (entry_at r) (entries_of n)
  entry_listed zero r l = absurd (omega arith)
  entry_listed (suc n) r l = at (ℕ_discrete r n) (entry_listed n r)
    where
      at : Dec (r ≡ n) → (r < n → Memᴰ (entry_at r) (entries_of n)) → Memᴰ (entry_at r) (entries_of n ++ entry_at n ∷ [])
      at (yes e) before = Memᴰ.append_right (entries_of n) (Memᴰ.head (ap entry_at e))
      at (no e) before = Memᴰ.append_left (entry_at n ∷ []) (before (omega arith))

  listed_entry : (n : ℕ) (e : Entry) → Memᴰ e (entries_of n) → (r : ℕ) × (r < n) × (e ≡ entry_at r)
  listed_entry zero e m = absurd (Memᴰ.not-nil m)
  listed_entry (suc n) e m = at (listed_entry n e) (Memᴰ.append_cases (entries_of n) m)
    where
      at : (Memᴰ e (entries_of n) → (r : ℕ) × (r < n) × (e ≡ entry_at r)) → Memᴰ e (entries_of n) ⊎ Memᴰ e (entry_at n ∷ []) → (r : ℕ) × (r < suc n) × (e ≡ entry_at r)
      at before (inl h) = let (r, l, d) = before h in (r, omega arith, d)
      at before (inr h) = (n, omega arith, Memᴰ.eq_of_singleton h)

  -- each entry stands at its row's place
  entry_nth : (n r : ℕ) → r < n → Nth (entries_of n) r (entry_at r)
  entry_nth zero r l = absurd (omega arith)
  entry_nth (suc n) r l = at (ℕ_discrete r n) (entry_nth n r)
    where
      at : Dec (r ≡ n) → (r < n → Nth (entries_of n) r (entry_at r)) → Nth (entries_of n ++ entry_at n ∷ []) r (entry_at r)
      at (yes e) before =
          let z : length (entries_of n) + 0 ≡ n = omega (arith, entries_many n) in
          rw e (rw z at (nth_right (entries_of n) {m = entry_at n ∷ []} here))
      at (no e) before = nth_left (entry_at n ∷ []) (before (omega arith))

  nth_entry : (n r : ℕ) (e : Entry) → Nth (entries_of n) r e → (r < n) × (e ≡ entry_at r)
  nth_entry n r e h = let l : r < n = omega (arith, nth_below h, entries_many n) in (l, nth_same h (entry_nth n r l))

  -- entries that stand before all behind them
  entries_ascend : (n : ℕ) → ((r q : ℕ) → r < q → q < n → Before (entry_words (entry_at r)) (entry_words (entry_at q))) → Ascending (entries_of n)
  entries_ascend zero h = tt
  entries_ascend (suc n) h =
      ascending_append (entries_of n) (entry_at n ∷ []) (entries_ascend n (λ r q l b. h r q l (omega arith))) ((λ f m. absurd (Memᴰ.not-nil m)), tt)
      (λ e f m k. let (r, l, d) = listed_entry n e m in rw (d, Memᴰ.eq_of_singleton k) (h r n l (omega arith)))

module _ (words dir : List ℕ) (p : Program) (setting : Setting words dir p) (table : List ℕ) (n : ℕ) (complete : Complete p table n)
    (table' : List ℕ) (sorted : Sorted table table' n) (small : (i : ℕ) → get_or table' i 0 < 65536) where
  few : Few p
  few = within_few p (sound_within words p setting.accepted)

  abbrev T : Row ℕ → Type 0
  T = At modes p p.grounded complete.last

  -- each row in the new order is one of the last round
  row_there : (r : ℕ) → r < n → T (row_of p (key_at table' r)) × (row_key p (row_of p (key_at table' r)) ≡ key_at table' r)
  row_there r l =
      keyed_row words p setting.accepted T complete.last (key_at table' r) (λ _ x. x)
      ((complete.keys.each (key_at table' r)).0 ((reordered_keys table table' n sorted.reordered (key_at table' r)).0 (key_listed table' n r l)))

  row_regular : (r : ℕ) → r < n → Regular p (row_of p (key_at table' r))
  row_regular r l = at_regular words p setting.accepted complete.last _ (row_there r l).0

  row_first : (r : ℕ) → r < n → First modes p p.grounded (round_at table' r) (row_of p (key_at table' r))
  row_first r l =
      let from = sorted.reordered.from r in
      let f = complete.in_rounds from (sorted.reordered.from_below r l) in
      rw ((sorted.reordered.same r l).rounds, key_before table table' n sorted.reordered r l) f

  round_within : (r : ℕ) → r < n → round_at table' r ≤ complete.last
  round_within r l = at (dec_le (round_at table' r) complete.last)
    where
      at : Dec (round_at table' r ≤ complete.last) → round_at table' r ≤ complete.last
      at (yes h) = h
      at (no h) = absurd ((row_first r l).1 complete.last (omega arith) (row_there r l).0)

  ordered : (r q : ℕ) → r < q → q < n → Before (entry_words (entry_at p table' r)) (entry_words (entry_at p table' q))
  ordered r q l b =
      (entry_before p few (entry_at p table' r) (entry_at p table' q) (row_regular r (omega arith)) (row_regular q b)).1
      (at (ℕ_discrete (round_at table' r) (round_at table' q)))
    where
      less : order_at table' r < order_at table' q
      less = ascending_strictly table' n small (reordered_distinct table table' n sorted.reordered complete.distinct) sorted.ascending r q l b

      key_small : (x : ℕ) → key_at table' x < 4294967296
      key_small x = omega (arith, small (row_size * x + 1), small (row_size * x + 2))

      at : Dec (round_at table' r ≡ round_at table' q)
          → (round_at table' r < round_at table' q) ⊎ ((round_at table' r ≡ round_at table' q) × (row_key p (row_of p (key_at table' r)) < row_key p (row_of p (key_at table' q))))
      at (yes e) = inr (e, rw ((row_there r (omega arith)).1, (row_there q b).1) (omega (arith, less)))
      at (no e) = inl (omega (arith, less, key_small r, key_small q))

  rounded : Rounded p complete.last (entries_of p table' n)
  rounded e = (to, from)
    where
      to : Memᴰ e (entries_of p table' n) → (e.round ≤ complete.last) × First modes p p.grounded e.round e.row
      to m = let (r, l, d) = listed_entry p table' n e m in rw d (round_within r l, row_first r l)

      from : (e.round ≤ complete.last) × First modes p p.grounded e.round e.row → Memᴰ e (entries_of p table' n)
      from (l, f) =
          let a = rounds_grow modes p p.grounded complete.last e.round l e.row f.0 in
          let m = (reordered_keys table table' n sorted.reordered (row_key p e.row)).1 ((complete.keys.each (row_key p e.row)).1 (e.row, a, refl)) in
          let (r, b, k) = listed_key table' n (row_key p e.row) m in
          let row : row_of p (key_at table' r) ≡ e.row = ap (row_of p) k ∙ row_of_key p few (at_regular words p setting.accepted complete.last e.row a) in
          let g : First modes p p.grounded (round_at table' r) e.row = rw row at (row_first r b) in
          let round : round_at table' r ≡ e.round = first_once modes p p.grounded (round_at table' r) e.round e.row g f in
          let same : entry_at p table' r ≡ e = (λ i. record { round = round i; row = row i }) in
          subst (λ (x : Entry). Memᴰ x (entries_of p table' n)) same (entry_listed p table' n r b)

  -- "accepted with exactly the least set"
  pub last_table : TableOf p (entries_of p table' n)
  last_table = rounded_table p complete.last complete.stops (entries_of p table' n) (entries_ascend p table' n ordered) rounded

  pub last_many : length (entries_of p table' n) ≡ n
  last_many = entries_many p table' n

  pub last_each : (r : ℕ) (e : Entry) → Nth (entries_of p table' n) r e
      → Regular p e.row × (round_at table' r ≡ e.round) × (slot_at table' r ≡ slot_of p e.row) × (mask_at table' r ≡ mask e.row)
  last_each r e h =
      let (l, d) = nth_entry p table' n r e h in
      let k = sym (row_there r l).1 in
      let g = row_regular r l in
      rw d (
        g,
        refl,
        key_slot (slot_at table' r) (mask_at table' r) (slot_of p (row_of p (key_at table' r))) (mask (row_of p (key_at table' r))) (small (row_size * r + 2)) (mask_small p g) k,
        key_mask (slot_at table' r) (mask_at table' r) (slot_of p (row_of p (key_at table' r))) (mask (row_of p (key_at table' r))) (small (row_size * r + 2)) (mask_small p g) k,
      )

  abbrev pub last_packed : row_size * n ≤ length table' → Packed words dir table' n
  last_packed fits = record { p = p; setting = setting; entries = entries_of p table' n; many = last_many; fits = fits; each = last_each }
