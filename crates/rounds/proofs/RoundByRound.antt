-- The rounds, one after the other: after each the rows are those of a round of the rules, and a round that adds none is the last.
use Prim.Native.Nat.{ℕ, zero, suc, ◌+◌, ◌*◌, ◌≤◌, ◌<◌}
use native.Mathlib.Omega.{arith}
use native.Mathlib.Decide.{dec_lt}
use mathlib.Core.Path.{◌≡◌, refl, ap, subst, ◌∙◌}
use mathlib.Core.Logic.{◌⊎◌, inl, inr, ⊎_elim, ◌↔◌}
use mathlib.Core.List.Memᴰ
use mathlib.Core.List.{List, [], ◌∷◌, Memᴰ}
use lib.ListN.{length, replicate, length-replicate}
use Rattle.marks.specs.Modes.{modes}
use Rattle.program.specs.Program.{Program}
use Rattle.program.specs.Limits.{row_size, max_rows}
use Rattle.program.proofs.ProgramWords.{sound_within}
use Rattle.rows.specs.Rows.{slots, round_at, mask_at, key_at, keys_of, key_of}
use Rattle.rows.specs.Store.{Added, there, new, full}
use Rattle.rows.specs.Linked.{BySlot, Linked}
use Rattle.rows.proofs.Keys.{key_listed, listed_key}
use Rattle.rows.proofs.Adding.{same_key}
use Rattle.rows.proofs.Linking.{befores_round, befores_key, befores_keys, befores_store, by_slot_same, no_chains}
use Rattle.table.specs.Rules.{Row, call}
use Rattle.table.specs.Rounds.{At, First}
use Rattle.table.specs.Table.{MoreThan}
use Rattle.table.specs.Keys.{row_key, row_of, Few}
use Rattle.table.specs.Added.{Behind, Plus, Full}
use Rattle.table.specs.NewRows.{Earlier, NewReached, new_on_head, NewGives}
use Rattle.table.specs.Steps.{on_head}
use Rattle.table.specs.RoundKeys.{Keyed, RoundKeys, Looked}
use Rattle.table.proofs.RulesOf.{Within}
use Rattle.table.proofs.RuleLaws.{reached_within, gives_within}
use Rattle.table.proofs.NewRows.{round_covered}
use Rattle.table.proofs.ComputedLaws.{at_decided}
use Rattle.table.proofs.ModesComputed.{modes_lists}
use Rattle.table.proofs.ShapeVariables.{within_few}
use Rattle.table.proofs.Regular.{goal_regular, at_regular}
use Rattle.table.proofs.Keys.{row_of_key, key_injective}
use Rattle.table.proofs.Added.{behind_has, behind_keeps}
use Rattle.table.proofs.RoundKeys.{round_zero, goal_more, round_next, new_first_round, stop_keys, keyed_row, full_more}
use Rattle.steps.specs.Steps.{RowsIn, Given, Writable, Grew, Overfull}
use Rattle.steps.specs.Situation.{Setting, Situation}
use Rattle.rounds.specs.Rounds.{InRounds, Complete}
use Rattle.steps.proofs.Stepping.{keys_stay}
use Rattle.ends.specs.Keeping.{KeepingMarks}
use Rattle.joining.specs.KeptAnswers.{KeepingAnswers}
use Rattle.joining.proofs.KeptPlaces.{answers_stay}
use Rattle.ends.proofs.KeptMarks.{marks_stay}

-- the rows so far are those of round k, those before `since` the rows of the round before
pub record Rounding (p : Program) (table buckets heads : List ℕ) (room since rows number : ℕ) : Type 0 where
  pub k : ℕ
  pub is_number : number ≡ suc k
  pub writable : Writable table buckets rows room
  pub by_slot : BySlot table heads since
  pub all_heads : length heads ≡ slots
  pub newer : since ≤ rows
  pub enough : number ≤ rows
  pub keys : RoundKeys p k (keys_of table rows)
  pub earlier : (row : Row ℕ) → RowsIn p (keys_of table since) row ↔ Earlier modes p p.grounded k row
  pub in_rounds : InRounds p table rows

-- what has grown and differs is more
pub strictly : (m n : ℕ) → m ≤ n → (n ≡ m → ⊥) → m < n
strictly m n l d = at (dec_lt m n)
  where
    at : Dec (m < n) → m < n
    at (yes b) = b
    at (no b) = absurd (d (omega arith))

-- what is looked at in the one set is looked at in the other
module _ (p : Program) (T₀ T T₀' T' : Row ℕ → Type 0) (more : Within T T') (fewer : Within T₀' T₀) where
  new_reached_for : (k i N : ℕ) → NewReached modes p T₀ T k i N → NewReached modes p T₀' T' k i N
  new_reached_for k zero N (s, M, (row, n), o) = (s, M, (more _ row, λ x. n (fewer _ x)), o)
  new_reached_for k (suc i) N (M, s, L, row, row', n, o) =
      (M, s, L, more _ row, more _ row', ⊎_elim (λ a. inl (λ x. a (fewer _ x))) (λ a. inr (λ x. a (fewer _ x))) n, o)

  new_gives_for : Within (NewGives modes p T₀ T) (NewGives modes p T₀' T')
  new_gives_for row (k, inl (i, (N, reached, goes))) = (k, inl (i, (N, new_reached_for k i N reached, goes)))
  new_gives_for row (k, inr (inl (N, new_on_head {c = c} hc reached, s, C, called, ends))) =
      (k, inr (inl (N, new_on_head hc (new_reached_for k (length c.body) N reached), s, C, more _ called, ends)))
  new_gives_for row (k, inr (inr (N, on_head hc reached, s, C, (called, n), ends))) =
      (k, inr (inr (N, on_head hc (reached_within modes p T T' more reached), s, C, (more _ called, λ x. n (fewer _ x)), ends)))

-- what is kept of the rows stays when they are linked
pub linked_keeps : {words dir : List ℕ} {p : Program} → Setting words dir p → (table table' heads' kept : List ℕ) {since rows : ℕ} → Linked table since rows table' heads'
    → KeepingMarks p table kept rows (keys_of table rows) → KeepingMarks p table' kept rows (keys_of table' rows)
linked_keeps setting table table' heads' kept {since} {rows} linked =
    let same = befores_keys since rows table table' linked.only_befores in
    marks_stay setting table table' kept rows (keys_of table rows) (keys_of table' rows) (λ m l. same m) (λ key h. rw (same rows) h)

pub linked_keeps_answers : (p : Program) (table table' heads' answered : List ℕ) {since rows : ℕ} → Linked table since rows table' heads'
    → KeepingAnswers p table answered rows → KeepingAnswers p table' answered rows
linked_keeps_answers p table table' heads' answered {since} {rows} linked =
    answers_stay p table table' answered rows
    (λ r h. (linked.only_befores (row_size * r + 1) (λ x a b e. omega arith), linked.only_befores (row_size * r + 2) (λ x a b e. omega arith)))

module _ (words dir : List ℕ) (p : Program) (setting : Setting words dir p) where
  few : Few p
  few = within_few p (sound_within words p setting.accepted)

  -- the rows of the keys of a round are those of the round
  module _ (k : ℕ) (ks : List ℕ) (kept : RoundKeys p k ks) where
    rows_at : Within (RowsIn p ks) (At modes p p.grounded k)
    rows_at row (regular, m) =
        let (row', r, e) = (kept.each (row_key p row)).0 m in
        rw (key_injective p few regular (at_regular words p setting.accepted k row' r) e) r

    at_rows : Within (At modes p p.grounded k) (RowsIn p ks)
    at_rows row r = (at_regular words p setting.accepted k row r, (kept.each (row_key p row)).1 (row, r, refl))

    -- what the rules give is there already, or is looked at
    given_looked : (key : ℕ) → Given p ks key → Memᴰ key ks ⊎ Looked p k key
    given_looked key (row, g, e) =
        ⊎_elim (λ r. inl ((kept.each key).1 (row, r, e))) (λ h. inr (row, h, e))
        (round_covered modes p p.grounded (at_decided modes modes_lists p p.grounded) k row (gives_within modes p (RowsIn p ks) (At modes p p.grounded k) rows_at row g))

    behind_looked : (ks' : List ℕ) → Behind ks (Given p ks) ks' → Behind ks (Looked p k) ks'
    behind_looked ks' b =
        record {
          new = b.new;
          is = b.is;
          of = λ key m. ⊎_elim (λ h. absurd (b.apart key m h)) (λ h. h) (given_looked key (b.of key m));
          distinct = b.distinct;
          apart = b.apart;
        }

    -- "the result exceeds the room"
    overfull_more : (room n n' : ℕ) (table : List ℕ) → keys_of table n ≡ ks → Overfull (Given p ks) room n table n' → MoreThan p room
    overfull_more room n n' table e o =
        let f : Full ks (Given p ks) room o.kept = subst (λ (l : List ℕ). Full l (Given p ks) room o.kept) e o.full in
        full_more words p setting.accepted k kept
        (record {
          behind = behind_looked o.kept f.behind;
          at_room = f.at_room;
          left = f.left;
          left_of = ⊎_elim (λ h. absurd (f.left_out (behind_keeps ks (Given p ks) o.kept f.behind f.left h))) (λ h. h) (given_looked f.left f.left_of);
          left_out = f.left_out;
        })

    grown_plus : (ks₀ ks' : List ℕ) → ((row : Row ℕ) → RowsIn p ks₀ row ↔ Earlier modes p p.grounded k row)
        → Behind ks (Given p ks) ks' → ((key : ℕ) → Keyed p (NewGives modes p (RowsIn p ks₀) (RowsIn p ks)) key → Memᴰ key ks') → Plus ks (Looked p k) ks'
    grown_plus ks₀ ks' earlier b all =
        record {
          behind = behind_looked ks' b;
          all = λ key (row, h, e).
              all key (
                row,
                new_gives_for p (Earlier modes p p.grounded k) (At modes p p.grounded k) (RowsIn p ks₀) (RowsIn p ks) at_rows (λ r x. (earlier r).0 x) row h,
                e,
              );
        }

  -- "Round 0 has one row, the goal's call."
  module _ (table₀ buckets₀ heads table buckets : List ℕ) (room mask r : ℕ) (is-mask : mask ≡ p.grounded)
      (added : Added table₀ buckets₀ 0 room 0 0 mask r table buckets) where
    pub no_room_exactly : room < r → MoreThan p room
    no_room_exactly l = at added
      where
        at : Added table₀ buckets₀ 0 room 0 0 mask r table buckets → MoreThan p room
        at (there m e t b) = absurd (Memᴰ.not-nil m)
        at (new out h e g) = absurd (omega arith)
        at (full out h e t b) = rw (← h) (goal_more p)

    pub no_room_by_one : room < r → r ≡ room + 1
    no_room_by_one l = at added
      where
        at : Added table₀ buckets₀ 0 room 0 0 mask r table buckets → r ≡ room + 1
        at (there m e t b) = absurd (Memᴰ.not-nil m)
        at (new out h e g) = absurd (omega arith)
        at (full out h e t b) = e

    pub round_zero_there : r ≤ room → room ≤ max_rows → row_size * room ≤ length table → heads ≡ replicate slots 0 → Rounding p table buckets heads room 0 r 1
    round_zero_there l most fits none = at added
      where
        at : Added table₀ buckets₀ 0 room 0 0 mask r table buckets → Rounding p table buckets heads room 0 r 1
        at (there m e t b) = absurd (Memᴰ.not-nil m)
        at (full out h e t b) = absurd (omega arith)
        at (new out h e g) =
            let one : keys_of table 1 ≡ key_of 0 mask ∷ [] = g.keys in
            let same : key_of 0 mask ≡ row_key p (call 0 p.grounded) = ap (key_of 0) is-mask in
            rw e
            (record {
              k = 0;
              is_number = refl;
              writable = record { store = g.store; within = omega arith; room_most = most; room_there = fits };
              by_slot = rw none (no_chains table);
              all_heads = rw none (length-replicate {A = ℕ} slots 0);
              newer = omega arith;
              enough = omega arith;
              keys = rw (one, same) (round_zero p);
              earlier = λ row. (λ h. Memᴰ.not-nil h.1, λ x. absurd x);
              in_rounds = λ q b.
                  let z : q ≡ 0 = omega arith in
                  let key : key_at table 0 ≡ row_key p (call 0 p.grounded) = ap (λ (x : ℕ). key_of x (mask_at table 0)) g.its_slot ∙ ap (key_of 0) g.its_mask ∙ same in
                  let row : row_of p (key_at table 0) ≡ call 0 p.grounded = ap (row_of p) key ∙ row_of_key p few (goal_regular words p setting.accepted) in
                  rw (z, g.its_round) (row, λ j b' _. absurd (omega arith));
            })

  module _ (table buckets heads : List ℕ) (room since rows number : ℕ) (s : Rounding p table buckets heads room since rows number)
      (table' heads' : List ℕ) (linked : Linked table since rows table' heads') (same_length : length table' ≡ length table) (same_heads : length heads' ≡ length heads) where
    keys_same : (n : ℕ) → keys_of table' n ≡ keys_of table n
    keys_same = befores_keys since rows table table' linked.only_befores

    pub round_kept : RoundKeys p s.k (keys_of table' rows)
    round_kept = rw (keys_same rows) s.keys

    earlier' : (row : Row ℕ) → RowsIn p (keys_of table' since) row ↔ Earlier modes p p.grounded s.k row
    earlier' row = rw (keys_same since) (s.earlier row)

    pub linked_writable : Writable table' buckets rows room
    linked_writable =
        record {
          store = befores_store since rows table table' linked.only_befores buckets rows same_length s.writable.store;
          within = s.writable.within;
          room_most = s.writable.room_most;
          room_there = rw same_length s.writable.room_there;
        }

    abbrev pub linked_situation : Situation words dir table' heads' since rows
    linked_situation =
        record {
          p = p;
          setting = setting;
          chains =
              record {
                by_slot = linked.by_slot;
                all_heads = same_heads ∙ s.all_heads;
                new = s.newer;
                most = linked_writable.store.most;
                fits = linked_writable.store.room;
                masks_below = linked_writable.store.masks_below;
                distinct = linked_writable.store.distinct;
                regular = λ r b.
                    let (a, e) = keyed_row words p setting.accepted (At modes p p.grounded s.k) s.k (key_at table' r) (λ _ x. x) ((round_kept.each (key_at table' r)).0 (key_listed table' rows r b)) in
                    (at_regular words p setting.accepted s.k (row_of p (key_at table' r)) a, e);
              };
        }

    pub rounds_overfull : (n' : ℕ) → Overfull (Given p (keys_of table' rows)) room rows table' n' → MoreThan p room
    rounds_overfull n' o = overfull_more s.k (keys_of table' rows) round_kept room rows n' table' refl o

    module _ (next : ℕ) (table'' buckets'' : List ℕ)
        (g : Grew (Given p (keys_of table' rows)) number room rows table' buckets (Keyed p (NewGives modes p (RowsIn p (keys_of table' since)) (RowsIn p (keys_of table' rows)))) next table'' buckets'') where
      plus : Plus (keys_of table' rows) (Looked p s.k) (keys_of table'' next)
      plus = grown_plus s.k (keys_of table' rows) round_kept (keys_of table' since) (keys_of table'' next) earlier' g.behind g.all

      first_keys : keys_of table'' rows ≡ keys_of table' rows
      first_keys = keys_stay table' table'' rows rows (omega arith) g.same_rows

      -- the rows so far keep their rounds
      old_rounds : InRounds p table'' rows
      old_rounds r b =
          let e : round_at table'' r ≡ round_at table r = g.same_rows (row_size * r) (omega arith) ∙ befores_round since rows table table' linked.only_befores r in
          let f : key_at table'' r ≡ key_at table r = same_key table' table'' rows g.same_rows r b ∙ befores_key since rows table table' linked.only_befores r in
          rw (e, f) (s.in_rounds r b)

      -- and the new ones are of the next
      new_rounds : (r : ℕ) → rows ≤ r → r < next → First modes p p.grounded (round_at table'' r) (row_of p (key_at table'' r))
      new_rounds r a b =
          let e : round_at table'' r ≡ suc s.k = g.rounds r a b ∙ s.is_number in
          rw e
          (keyed_row words p setting.accepted (First modes p p.grounded (suc s.k)) (suc s.k) (key_at table'' r) (λ _ f. f.0)
          (new_first_round p s.k round_kept plus.behind (key_at table'' r)
          (⊎_elim (λ m. absurd (older m)) (λ m. m) (behind_has (keys_of table' rows) (Looked p s.k) (keys_of table'' next) plus.behind (key_at table'' r) (key_listed table'' next r b))))).0
        where
          older : Memᴰ (key_at table'' r) (keys_of table' rows) → ⊥
          older m =
              let (q, l, e) = listed_key table'' rows (key_at table'' r) (rw first_keys m) in
              let d : q ≡ r = g.writable.store.distinct q r (omega (arith, g.more)) b e in
              omega arith

      -- a round that adds nothing is the last
      pub rounds_stop : next ≡ rows → Complete p table'' rows
      rounds_stop e =
          record {
            last = s.k;
            stops = stop_keys words p setting.accepted s.k round_kept (subst (Plus (keys_of table' rows) (Looked p s.k)) (ap (keys_of table'') e ∙ first_keys) plus);
            keys = rw first_keys round_kept;
            in_rounds = old_rounds;
            distinct = λ r q a b. g.writable.store.distinct r q (omega arith) (omega arith);
            fits = omega (arith, g.writable.store.room);
          }

      pub rounds_next : (next ≡ rows → ⊥) → Rounding p table'' buckets'' heads' room rows next (number + 1)
      rounds_next differ =
          record {
            k = suc s.k;
            is_number = omega (arith, s.is_number);
            writable = g.writable;
            by_slot = by_slot_same table' table'' heads' rows rows g.same_rows (omega arith) linked.by_slot;
            all_heads = same_heads ∙ s.all_heads;
            newer = g.more;
            enough = let l : rows < next = strictly rows next g.more differ in omega (arith, s.enough);
            keys = round_next p s.k round_kept plus;
            earlier = λ row. rw first_keys (rows_at s.k (keys_of table' rows) round_kept row, at_rows s.k (keys_of table' rows) round_kept row);
            in_rounds = λ r b. at r b (dec_lt r rows);
          }
        where
          at : (r : ℕ) → r < next → Dec (r < rows) → First modes p p.grounded (round_at table'' r) (row_of p (key_at table'' r))
          at r b (yes l) = old_rounds r l
          at r b (no l) = new_rounds r (omega arith) b
