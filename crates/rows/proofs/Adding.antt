-- A row is written behind the others: what its words are, that the others stay, and that the store holds with its key added.
use Prim.Native.Nat.{ℕ, ◌+◌, ◌*◌, ◌≤◌, ◌<◌}
use native.Mathlib.Omega.{arith}
use native.Mathlib.Decide.{ℕ_discrete}
use mathlib.Core.Path.{◌≡◌, sym, ap, ◌∙◌}
use mathlib.Core.List.{List, [], ◌∷◌, ◌++◌, Memᴰ}
use lib.ListN.{length, get_or, set, length-set, replicate, length-replicate}
use lib.Seq.{get_or-set_same, get_or-set_other}
use Rattle.program.specs.Limits.{row_size, masks, max_rows}
use Rattle.rows.specs.Rows.{slots, buckets, round_at, slot_at, mask_at, next_at, key_of, key_at, keys_of, bucket_of, bucket_at}
use Rattle.rows.specs.Store.{Store, SameRows, with_row, Grown}
use Rattle.rows.proofs.Keys.{bucket_below, same_keys, keys_more, key_listed}
use Rattle.rows.proofs.Chaining.{chained_none, chained_more}

-- a store of no rows: every bucket is empty
pub empty_store : (table : List ℕ) → Store table (replicate buckets 0) 0
empty_store table = record {
  room = omega arith;
  most = omega arith;
  slots_below = λ r h. absurd (omega arith);
  masks_below = λ r h. absurd (omega arith);
  all_buckets = length-replicate {A = ℕ} buckets 0;
  chained = chained_none (bucket_at table) (next_at table) buckets;
  distinct = λ r q h k e. absurd (omega arith);
}

module _ (table : List ℕ) (r round slot mask next : ℕ) where
  -- a word of another row is as it was
  pub with_row_apart : (i : ℕ) → ((k : ℕ) → k < row_size → i ≡ row_size * r + k → ⊥) → get_or (with_row table r round slot mask next) i 0 ≡ get_or table i 0
  with_row_apart i apart =
      let t₁ = set table (row_size * r) round in
      let t₂ = set t₁ (row_size * r + 1) slot in
      let t₃ = set t₂ (row_size * r + 2) mask in
      let t₄ = set t₃ (row_size * r + 3) 0 in
      get_or-set_other t₄ (row_size * r + 4) i next 0 (apart 4 (omega arith))
      ∙ get_or-set_other t₃ (row_size * r + 3) i 0 0 (apart 3 (omega arith))
      ∙ get_or-set_other t₂ (row_size * r + 2) i mask 0 (apart 2 (omega arith))
      ∙ get_or-set_other t₁ (row_size * r + 1) i slot 0 (apart 1 (omega arith))
      ∙ get_or-set_other table (row_size * r) i round 0 (λ e. apart 0 (omega arith) (omega arith))

  pub with_row_length : length (with_row table r round slot mask next) ≡ length table
  with_row_length = simp length-set

  module _ (within : row_size * r + 4 < length table) where
    pub with_row_round : round_at (with_row table r round slot mask next) r ≡ round
    with_row_round =
        let t₁ = set table (row_size * r) round in
        let t₂ = set t₁ (row_size * r + 1) slot in
        let t₃ = set t₂ (row_size * r + 2) mask in
        let t₄ = set t₃ (row_size * r + 3) 0 in
        get_or-set_other t₄ (row_size * r + 4) (row_size * r) next 0 (λ e. omega arith)
        ∙ get_or-set_other t₃ (row_size * r + 3) (row_size * r) 0 0 (λ e. omega arith)
        ∙ get_or-set_other t₂ (row_size * r + 2) (row_size * r) mask 0 (λ e. omega arith)
        ∙ get_or-set_other t₁ (row_size * r + 1) (row_size * r) slot 0 (λ e. omega arith)
        ∙ get_or-set_same table (row_size * r) round 0 (omega arith)

    pub with_row_slot : slot_at (with_row table r round slot mask next) r ≡ slot
    with_row_slot =
        let t₁ = set table (row_size * r) round in
        let t₂ = set t₁ (row_size * r + 1) slot in
        let t₃ = set t₂ (row_size * r + 2) mask in
        let t₄ = set t₃ (row_size * r + 3) 0 in
        get_or-set_other t₄ (row_size * r + 4) (row_size * r + 1) next 0 (λ e. omega arith)
        ∙ get_or-set_other t₃ (row_size * r + 3) (row_size * r + 1) 0 0 (λ e. omega arith)
        ∙ get_or-set_other t₂ (row_size * r + 2) (row_size * r + 1) mask 0 (λ e. omega arith)
        ∙ get_or-set_same t₁ (row_size * r + 1) slot 0 (simp length-set (omega arith))

    pub with_row_mask : mask_at (with_row table r round slot mask next) r ≡ mask
    with_row_mask =
        let t₁ = set table (row_size * r) round in
        let t₂ = set t₁ (row_size * r + 1) slot in
        let t₃ = set t₂ (row_size * r + 2) mask in
        let t₄ = set t₃ (row_size * r + 3) 0 in
        get_or-set_other t₄ (row_size * r + 4) (row_size * r + 2) next 0 (λ e. omega arith)
        ∙ get_or-set_other t₃ (row_size * r + 3) (row_size * r + 2) 0 0 (λ e. omega arith)
        ∙ get_or-set_same t₂ (row_size * r + 2) mask 0 (simp length-set (omega arith))

    pub with_row_next : next_at (with_row table r round slot mask next) r ≡ next
    with_row_next = get_or-set_same (set (set (set (set table (row_size * r) round) (row_size * r + 1) slot) (row_size * r + 2) mask) (row_size * r + 3) 0) (row_size * r + 4) next 0 (simp length-set (omega arith))

-- the words of the first n rows say the same slots, masks and links
module _ (table table' : List ℕ) (n : ℕ) (same : SameRows table table' n) where
  pub same_slot : (r : ℕ) → r < n → slot_at table' r ≡ slot_at table r
  same_slot r h = same (row_size * r + 1) (omega arith)

  pub same_mask : (r : ℕ) → r < n → mask_at table' r ≡ mask_at table r
  same_mask r h = same (row_size * r + 2) (omega arith)

  pub same_next : (r : ℕ) → r < n → next_at table' r ≡ next_at table r
  same_next r h = same (row_size * r + 4) (omega arith)

  pub same_key : (r : ℕ) → r < n → key_at table' r ≡ key_at table r
  same_key r h = rw (same_slot r h, same_mask r h)

  pub same_bucket : (r : ℕ) → r < n → bucket_at table' r ≡ bucket_at table r
  same_bucket r h = rw (same_slot r h, same_mask r h)

-- what holds of the rows below n and of row n holds of the rows below n + 1
below_next : (P : ℕ → Type 0) (n : ℕ) → ((r : ℕ) → r < n → P r) → P n → (r : ℕ) → r < n + 1 → P r
below_next P n below here r h = at (ℕ_discrete r n)
  where
    at : Dec (r ≡ n) → P r
    at (yes e) = rw e here
    at (no o) = below r (omega arith)

-- row n stands behind the first n rows of a store, with a key that none of them has
module _ (table table' heads : List ℕ) (n round slot mask : ℕ) (st : Store table heads n) (same : SameRows table table' n)
    (more : n < max_rows) (room : row_size * (n + 1) ≤ length table') (slot-below : slot < slots) (mask_below : mask < masks)
    (its_slot : slot_at table' n ≡ slot) (its_mask : mask_at table' n ≡ mask) (its-next : next_at table' n ≡ get_or heads (bucket_of slot mask) 0)
    (is-new : Memᴰ (key_of slot mask) (keys_of table n) → ⊥)
  where
    its_key : key_at table' n ≡ key_of slot mask
    its_key = rw (its_slot, its_mask)

    its_bucket : bucket_at table' n ≡ bucket_of slot mask
    its_bucket = rw (its_slot, its_mask)

    new_key : (r : ℕ) → r < n → key_at table' r ≡ key_at table' n → ⊥
    new_key r h e =
        let k : key_at table r ≡ key_of slot mask = sym (same_key table table' n same r h) ∙ e ∙ its_key in
        let m = key_listed table n r h in
        is-new (rw k at m)

    all_distinct : (r q : ℕ) → r < n + 1 → q < n + 1 → key_at table' r ≡ key_at table' q → r ≡ q
    all_distinct r q h k e = at (ℕ_discrete r n) (ℕ_discrete q n)
      where
        at : Dec (r ≡ n) → Dec (q ≡ n) → r ≡ q
        at (yes a) (yes b) = a ∙ sym b
        at (yes a) (no b) = absurd (new_key q (omega arith) (sym e ∙ ap (key_at table') a))
        at (no a) (yes b) = absurd (new_key r (omega arith) (e ∙ ap (key_at table') b))
        at (no a) (no b) =
            let l : r < n = omega arith in
            let m : q < n = omega arith in
            st.distinct r q l m (sym (same_key table table' n same r l) ∙ e ∙ same_key table table' n same q m)

    pub grown_store : Store table' (set heads (bucket_of slot mask) (n + 1)) (n + 1)
    grown_store = record {
      room = room;
      most = omega arith;
      slots_below = below_next (λ r. slot_at table' r < slots) n (λ r h. rw (same_slot table table' n same r h) (st.slots_below r h)) (rw its_slot slot-below);
      masks_below = below_next (λ r. mask_at table' r < masks) n (λ r h. rw (same_mask table table' n same r h) (st.masks_below r h)) (rw its_mask mask_below);
      all_buckets = length-set heads (bucket_of slot mask) (n + 1) ∙ st.all_buckets;
      chained =
          let ch =
          chained_more (bucket_at table) (bucket_at table') (next_at table) (next_at table') heads n (same_bucket table table' n same) (same_next table table' n same)
          (rw its_bucket (let b = bucket_below slot mask in let a = st.all_buckets in omega arith)) (rw its_bucket its-next) st.chained in
          rw its_bucket at ch;
      distinct = all_distinct;
    }

    pub grown_keys : keys_of table' (n + 1) ≡ keys_of table n ++ (key_of slot mask ∷ [])
    grown_keys = keys_more table' n ∙ rw (same_keys table table' n (same_key table table' n same), its_key)

-- the row is written and heads its bucket
pub row_added : (table heads : List ℕ) (n room round slot mask : ℕ) → Store table heads n → n < room → room ≤ max_rows → row_size * room ≤ length table → slot < slots
    → mask < masks → (Memᴰ (key_of slot mask) (keys_of table n) → ⊥)
    → Grown table heads n round slot mask (with_row table n round slot mask (get_or heads (bucket_of slot mask) 0)) (set heads (bucket_of slot mask) (n + 1))
row_added table heads n room round slot mask st more most fits slot-below mask_below is-new =
    let next = get_or heads (bucket_of slot mask) 0 in
    let table' = with_row table n round slot mask next in
    let within : row_size * n + 4 < length table = omega arith in
    let same : SameRows table table' n = (λ i h. with_row_apart table n round slot mask next i (λ k l e. omega arith)) in
    let its_slot = with_row_slot table n round slot mask next within in
    let its_mask = with_row_mask table n round slot mask next within in
    let its-next = with_row_next table n round slot mask next within in
    let wide : row_size * (n + 1) ≤ length table' = rw (with_row_length table n round slot mask next) (omega arith) in
    record {
      store = grown_store table table' heads n round slot mask st same (omega arith) wide slot-below mask_below its_slot its_mask its-next is-new;
      same_rows = same;
      same_behind = λ i h. with_row_apart table n round slot mask next i (λ k l e. omega arith);
      keys = grown_keys table table' heads n round slot mask st same (omega arith) wide slot-below mask_below its_slot its_mask its-next is-new;
      its_round = with_row_round table n round slot mask next within;
      its_slot = its_slot;
      its_mask = its_mask;
    }
