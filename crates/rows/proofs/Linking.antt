-- Rows are linked by slot: one row more in the chains, and what stays where only `before` words change.
use Prim.Native.Nat.{ℕ, ◌+◌, ◌*◌, ◌≤◌, ◌<◌}
use native.Mathlib.Omega.{arith}
use mathlib.Core.Path.{◌≡◌, refl, sym, ◌∙◌}
use mathlib.Core.List.{List}
use lib.ListN.{length, get_or, set, replicate}
use lib.Seq.{get_or-set_same, get_or-set_other}
use Rattle.program.specs.Limits.{row_size}
use Rattle.rows.specs.Rows.{slots, round_at, slot_at, mask_at, before_at, next_at, key_at, keys_of, bucket_at}
use Rattle.rows.specs.Store.{Store, SameRows}
use Rattle.rows.specs.Linked.{OnlyBefores, BySlot, Linked}
use Rattle.rows.proofs.Keys.{same_keys}
use Rattle.rows.proofs.Chaining.{chained_none, chained_same, chained_more}

-- no rows: every head is 0
pub no_chains : (table : List ℕ) → BySlot table (replicate slots 0) 0
no_chains table = chained_none (slot_at table) (before_at table) slots

-- where only `before` words change, the other words of every row stay, and `before` of the rows below
module _ (from to : ℕ) (table table' : List ℕ) (only : OnlyBefores from to table table') where
  pub befores_round : (r : ℕ) → round_at table' r ≡ round_at table r
  befores_round r = only (row_size * r) (λ q a b e. omega arith)

  pub befores_slot : (r : ℕ) → slot_at table' r ≡ slot_at table r
  befores_slot r = only (row_size * r + 1) (λ q a b e. omega arith)

  pub befores_mask : (r : ℕ) → mask_at table' r ≡ mask_at table r
  befores_mask r = only (row_size * r + 2) (λ q a b e. omega arith)

  pub befores_next : (r : ℕ) → next_at table' r ≡ next_at table r
  befores_next r = only (row_size * r + 4) (λ q a b e. omega arith)

  pub befores_key : (r : ℕ) → key_at table' r ≡ key_at table r
  befores_key r = rw (befores_slot r, befores_mask r)

  pub befores_keys : (n : ℕ) → keys_of table' n ≡ keys_of table n
  befores_keys n = same_keys table table' n (λ r h. befores_key r)

  befores_bucket : (r : ℕ) → bucket_at table' r ≡ bucket_at table r
  befores_bucket r = rw (befores_slot r, befores_mask r)

  -- a store goes by slots, masks and nexts
  pub befores_store : (heads : List ℕ) (n : ℕ) → length table' ≡ length table → Store table heads n → Store table' heads n
  befores_store heads n as_long st = record {
    room = rw as_long st.room;
    most = st.most;
    slots_below = λ r h. rw (befores_slot r) (st.slots_below r h);
    masks_below = λ r h. rw (befores_mask r) (st.masks_below r h);
    all_buckets = st.all_buckets;
    chained =
        chained_same (bucket_at table) (bucket_at table') (next_at table) (next_at table') heads n (λ r h. befores_bucket r) (λ r h. befores_next r) st.chained;
    distinct = λ r q h k e. st.distinct r q h k (sym (befores_key r) ∙ e ∙ befores_key q);
  }

-- nothing is linked yet
pub linked_none : (table heads : List ℕ) (from : ℕ) → BySlot table heads from → Linked table from from table heads
linked_none table heads from ch = record { by_slot = ch; only_befores = λ i apart. refl }

-- one row more: it is put before the older rows of its slot
pub linked_more : (table₀ table heads : List ℕ) (from r : ℕ) → from ≤ r → row_size * r + 4 < length table → slot_at table r < length heads → Linked table₀ from r table heads
    → Linked table₀ from (r + 1) (set table (row_size * r + 3) (get_or heads (slot_at table r) 0)) (set heads (slot_at table r) (r + 1))
linked_more table₀ table heads from r more within slot_within old =
    let older = get_or heads (slot_at table r) 0 in
    let table' = set table (row_size * r + 3) older in
    let apart : (i : ℕ) → (i ≡ row_size * r + 3 → ⊥) → get_or table' i 0 ≡ get_or table i 0 = (λ i o. get_or-set_other table (row_size * r + 3) i older 0 o) in
    let slot : (q : ℕ) → slot_at table' q ≡ slot_at table q = (λ q. apart (row_size * q + 1) (λ e. omega arith)) in
    let ch =
    chained_more (slot_at table) (slot_at table') (before_at table) (before_at table') heads r (λ q h. slot q) (λ q h. apart (row_size * q + 3) (λ e. omega arith))
    (rw (slot r) slot_within) (rw (slot r) (get_or-set_same table (row_size * r + 3) older 0 (omega arith))) old.by_slot in
    record {
      by_slot = rw (slot r) at ch;
      only_befores = λ i o. apart i (o r more (omega arith)) ∙ old.only_befores i (λ q a b e. o q a (omega arith) e);
    }

-- the chains by slot of rows that stay, as others are added behind them
pub by_slot_same : (table table' heads : List ℕ) (n m : ℕ) → SameRows table table' n → m ≤ n → BySlot table heads m → BySlot table' heads m
by_slot_same table table' heads n m same less =
    chained_same (slot_at table) (slot_at table') (before_at table) (before_at table') heads m (λ r h. same (row_size * r + 1) (omega arith)) (λ r h. same (row_size * r + 3) (omega arith))
