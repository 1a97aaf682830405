-- Keys of rows: a key says its slot and its mask, and the keys of the first rows are found by index.
use Prim.Native.Nat.{ℕ, zero, suc, ◌+◌, ◌<◌}
use native.Mathlib.Omega.{arith}
use native.Mathlib.Numerals.{add-one}
use native.Mathlib.Decide.{dec_lt}
use mathlib.Core.Path.{◌≡◌, refl, sym, ap}
use mathlib.Core.List.Memᴰ
use mathlib.Core.List.{List, [], ◌∷◌, ◌++◌, Memᴰ}
use mathlib.Core.Logic.{◌↔◌, ⊎_elim}
use lib.ListN.{length, length-append}
use Rattle.program.specs.Limits.{masks}
use Rattle.rows.specs.Rows.{buckets, key_of, key_at, keys_of, bucket_of}

-- a key says its slot and its mask
pub key_slot : (s m s' m' : ℕ) → m < masks → m' < masks → key_of s m ≡ key_of s' m' → s ≡ s'
key_slot s m s' m' h h' e = omega arith

pub key_mask : (s m s' m' : ℕ) → m < masks → m' < masks → key_of s m ≡ key_of s' m' → m ≡ m'
key_mask s m s' m' h h' e = omega arith

pub bucket_below : (s m : ℕ) → bucket_of s m < buckets
unfolding bucket_of
bucket_below s m = omega arith

-- a row below n has its key among the first n
pub key_listed : (table : List ℕ) (n r : ℕ) → r < n → Memᴰ (key_at table r) (keys_of table n)
key_listed table zero r h = absurd (omega arith)
key_listed table (suc n) r h = at (dec_lt r n) (λ l. key_listed table n r l)
  where
    at : Dec (r < n) → (r < n → Memᴰ (key_at table r) (keys_of table n)) → Memᴰ (key_at table r) (keys_of table n ++ (key_at table n ∷ []))
    at (yes l) below = Memᴰ.append_left (key_at table n ∷ []) (below l)
    at (no g) below = let e : r ≡ n = omega arith in Memᴰ.append_right (keys_of table n) (Memᴰ.head (ap (key_at table) e))

-- and each of the first n keys is that of such a row
pub listed_key : (table : List ℕ) (n k : ℕ) → Memᴰ k (keys_of table n) → (r : ℕ) × (r < n) × (key_at table r ≡ k)
listed_key table zero k m = absurd (Memᴰ.not-nil m)
listed_key table (suc n) k m = ⊎_elim
    (λ h. let w = listed_key table n k h in let l = w.1 in (w.0, omega arith, w.2))
    (λ h. (n, omega arith, sym (Memᴰ.eq_of_singleton h)))
    (Memᴰ.append_cases (keys_of table n) m)

pub keys_by_row : (table : List ℕ) (n k : ℕ) → Memᴰ k (keys_of table n) ↔ ((r : ℕ) × (r < n) × (key_at table r ≡ k))
keys_by_row table n k = (listed_key table n k, λ w. let h = key_listed table n w.0 w.1 in rw w.2 at h)

-- where rows have the same keys the lists of keys are the same
pub same_keys : (table table' : List ℕ) (n : ℕ) → ((r : ℕ) → r < n → key_at table' r ≡ key_at table r) → keys_of table' n ≡ keys_of table n
same_keys table table' zero same = refl
same_keys table table' (suc n) same =
    let rest : keys_of table' n ≡ keys_of table n = same_keys table table' n (λ r h. same r (omega arith)) in
    let this : key_at table' n ≡ key_at table n = same n (omega arith) in
    rw (rest, this)

-- one row more
pub keys_more : (table : List ℕ) (n : ℕ) → keys_of table (n + 1) ≡ keys_of table n ++ (key_at table n ∷ [])
keys_more table n = rw (add-one n)

pub keys_length : (table : List ℕ) (n : ℕ) → length (keys_of table n) ≡ n
keys_length table zero = refl
keys_length table (suc n) = rw (length-append, keys_length table n) (omega arith)
