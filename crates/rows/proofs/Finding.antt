-- A key is looked for along the chain of its bucket: the rows passed do not have it, and at the chain's end no row has it.
use Prim.Native.Nat.{ℕ, ◌+◌, ◌*◌, ◌-◌, ◌<◌}
use native.Mathlib.Omega.{arith}
use mathlib.Core.Path.{◌≡◌, refl}
use mathlib.Core.List.{List, Memᴰ}
use lib.ListN.{length, get_or}
use Rattle.program.specs.Limits.{row_size, masks}
use Rattle.rows.specs.Rows.{slot_at, mask_at, next_at, key_of, key_at, keys_of, bucket_of, bucket_at}
use Rattle.rows.specs.Chains.{Walked}
use Rattle.rows.specs.Store.{Store}
use Rattle.rows.proofs.Keys.{key_slot, key_mask, bucket_below, keys_by_row, listed_key}
use Rattle.rows.proofs.Chaining.{walk_ends, chain_begins, chain_row_below, chain_goes_on, chain_falls}

-- the walk has come to the link, and no row behind it has the key
abbrev pub Looked : List ℕ → ℕ → ℕ → ℕ → ℕ → Type 0
Looked table n slot mask link = Walked (bucket_at table) (bucket_of slot mask) n link (λ q. key_at table q ≡ key_of slot mask → ⊥)

module _ (table heads : List ℕ) (n slot mask : ℕ) (st : Store table heads n) where
  OtherKey : ℕ → Type 0
  OtherKey q = key_at table q ≡ key_of slot mask → ⊥

  pub looked_begins : Looked table n slot mask (get_or heads (bucket_of slot mask) 0)
  unfolding OtherKey
  looked_begins =
      chain_begins (bucket_at table) (next_at table) heads n st.chained (bucket_of slot mask) OtherKey (let b = bucket_below slot mask in let a = st.all_buckets in omega arith)

  -- the row at the link is a row of the table
  pub looked_at : (link : ℕ) → Looked table n slot mask link → 0 < link → link - 1 < n
  unfolding OtherKey
  looked_at = chain_row_below (bucket_at table) (next_at table) heads n st.chained (bucket_of slot mask) OtherKey

  pub row_within : (r : ℕ) → r < n → row_size * r + 4 < length table
  row_within r h = let l = st.room in omega arith

  pub looked_goes_on : (link : ℕ) → mask < masks → Looked table n slot mask link → 0 < link → ((slot_at table (link - 1) ≡ slot) × (mask_at table (link - 1) ≡ mask) → ⊥)
      → Looked table n slot mask (next_at table (link - 1))
  unfolding OtherKey
  looked_goes_on link small w more other =
      let m = st.masks_below (link - 1) (looked_at link w more) in
      chain_goes_on (bucket_at table) (next_at table) heads n st.chained (bucket_of slot mask) OtherKey link w more
      (λ e. other (key_slot (slot_at table (link - 1)) (mask_at table (link - 1)) slot mask m small e, key_mask (slot_at table (link - 1)) (mask_at table (link - 1)) slot mask m small e))

  pub next_falls : (link : ℕ) → Looked table n slot mask link → 0 < link → next_at table (link - 1) < link
  unfolding OtherKey
  next_falls = chain_falls (bucket_at table) (next_at table) heads n st.chained (bucket_of slot mask) OtherKey

  pub looked_ends : mask < masks → Looked table n slot mask 0 → Memᴰ (key_of slot mask) (keys_of table n) → ⊥
  looked_ends small w m =
      let f = listed_key table n (key_of slot mask) m in
      let b = st.masks_below f.0 f.1 in
      let s : slot_at table f.0 ≡ slot = key_slot (slot_at table f.0) (mask_at table f.0) slot mask b small f.2 in
      let k : mask_at table f.0 ≡ mask = key_mask (slot_at table f.0) (mask_at table f.0) slot mask b small f.2 in
      walk_ends (bucket_at table) (bucket_of slot mask) n (λ q. key_at table q ≡ key_of slot mask → ⊥) w f.0 f.1 (rw (s, k) refl) f.2

-- the row at the link has the key
pub found_there : (table : List ℕ) (n slot mask r : ℕ) → r < n → slot_at table r ≡ slot → mask_at table r ≡ mask → Memᴰ (key_of slot mask) (keys_of table n)
found_there table n slot mask r h s m = (keys_by_row table n (key_of slot mask)).1 (r, h, rw (s, m) refl)
