-- Laws of names: comparing two, their hashes, and one step of the search.
use Prim.Native.Nat.{ℕ, suc, ◌+◌, ◌-◌, ◌*◌, ◌%◌, ◌≤◌, ◌<◌}
use mathlib.Core.Path.{◌≡◌, refl, ap}
use mathlib.Core.Bool.{Bool, true, false}
use mathlib.Core.List.{List}
use native.Mathlib.Omega.{arith}
use lib.ListN.{length, length-take, length-drop}
use Rattle.std.proofs.lemmas.Slice.Eq.{bytes_eq-Decides}
use Rattle.text.specs.Name.{name_bytes, entry, same, seek, hash_of, hash_below}

-- what is the same is equal
pub same_equal : (xs ys : List ℕ) → same xs ys ≡ true → xs ≡ ys
same_equal xs ys = (bytes_eq-Decides xs ys).0

pub same_refl : (xs : List ℕ) → same xs xs ≡ true
same_refl xs = (bytes_eq-Decides xs xs).1 refl

-- a step of the hash within 16 bits
pub hash_step : (h b : ℕ) → (h * 31 % 65536 + b) % 65536 ≡ (h * 31 + b) % hash_below
hash_step h b = omega arith

-- lists of different lengths are not the same
pub lengths_apart : (xs ys : List ℕ) → (length xs ≡ length ys → ⊥) → same xs ys ≡ false
lengths_apart xs ys n = go (same xs ys) refl
  where
    go : (t : Bool) → same xs ys ≡ t → t ≡ false
    go true e = absurd (n (ap length (same_equal xs ys e)))
    go false e = refl

-- names whose hashes differ are not the same
pub hashes_apart : (xs ys : List ℕ) → (hash_of xs ≡ hash_of ys → ⊥) → same xs ys ≡ false
hashes_apart xs ys n = go (same xs ys) refl
  where
    go : (t : Bool) → same xs ys ≡ t → t ≡ false
    go true e = absurd (n (ap hash_of (same_equal xs ys e)))
    go false e = refl

-- one step of the search
module _ (names key : List ℕ) (i to : ℕ) where
  pub seek_here : i < to → same (entry names i) key ≡ true → seek names key i (to - i) ≡ i
  seek_here h e = let n : to - i ≡ suc (to - suc i) = omega arith in rw (n, e)

  pub seek_past : i < to → same (entry names i) key ≡ false → seek names key i (to - i) ≡ seek names key (suc i) (to - suc i)
  seek_past h e = let n : to - i ≡ suc (to - suc i) = omega arith in rw (n, e)

  pub seek_ends : to ≤ i → seek names key i (to - i) ≡ i
  seek_ends h = let n : to - i ≡ 0 = omega arith in rw n

pub length_entry : (names : List ℕ) (i : ℕ) → i * name_bytes + name_bytes ≤ length names → length (entry names i) ≡ name_bytes
length_entry names i h = simp (length-take, length-drop) (omega arith)
