-- Sets of masks: what is in a set once a mask is put in, and that cleared words have nothing.
use Prim.Native.Nat.{ℕ, ◌/◌, ◌%◌, ◌^◌, ◌<◌}
use native.Mathlib.Omega.{arith}
use native.Mathlib.Decide.{ℕ_discrete, dec_lt}
use mathlib.Core.Path.{◌≡◌, ap}
use mathlib.Core.Bool.{Bool, true, false}
use mathlib.Core.List.{List, ◌++◌}
use mathlib.Core.Logic.{◌↔◌, ◌⊎◌, inl, inr, ⊎_elim}
use lib.ListN.{length, get_or, set, drop, replicate, length-replicate, get_or-replicate, get_or-append, get_or-eq_default}
use lib.Seq.{get_or-set_same, get_or-set_other}
use lib.Bits.{bit_or}
use lib.Dec.{T}
use Rattle.terms.proofs.Masks.{has_or, has_one, has_none, has_decided}
use Rattle.rows.specs.MaskSet.{InSet, Inserted}

-- words that are all 0
pub zero_word : (n i : ℕ) → ◌≡◌ {A = ℕ} (get_or (replicate n 0) i 0) 0
zero_word n i = at (dec_lt i n)
  where
    at : Dec (i < n) → ◌≡◌ {A = ℕ} (get_or (replicate n 0) i 0) 0
    at (yes l) = get_or-replicate {A = ℕ} n i 0 0 l
    at (no o) = get_or-eq_default {A = ℕ} (replicate n 0) 0 {n = i} (let e = length-replicate {A = ℕ} n 0 in omega arith)

-- an empty set has nothing
pub none_in_zeros : (n q : ℕ) → InSet (replicate n 0) q → ⊥
none_in_zeros n q h = has_none (q % 16) (rw (zero_word n (q / 16)) at h)

-- the cleared words of a set have nothing
pub none_in_cleared : (s : List ℕ) (n q : ℕ) → q / 16 < n → InSet (replicate n 0 ++ drop n s) q → ⊥
none_in_cleared s n q l h =
    let a : get_or (replicate n 0 ++ drop n s) (q / 16) 0 ≡ get_or (replicate {A = ℕ} n 0) (q / 16) 0 = get_or-append (replicate n 0) (drop n s) 0 (q / 16) (let e = length-replicate {A = ℕ} n 0 in omega arith) in
    none_in_zeros n q (rw a at h)

module _ (s : List ℕ) (q : ℕ) (within : q / 16 < length s) where
  abbrev with_bit : List ℕ
  with_bit = set s (q / 16) (bit_or (get_or s (q / 16) 0) (2 ^ (q % 16)))

  -- what a set has once the bit of q is put in
  pub bit_put : (p : ℕ) → InSet with_bit p ↔ (InSet s p ⊎ (p ≡ q))
  bit_put p = at (ℕ_discrete (p / 16) (q / 16))
    where
      at : Dec (p / 16 ≡ q / 16) → InSet with_bit p ↔ (InSet s p ⊎ (p ≡ q))
      at (no o) = rw (get_or-set_other s (q / 16) (p / 16) (bit_or (get_or s (q / 16) 0) (2 ^ (q % 16))) 0 o) (inl, ⊎_elim (λ h. h) (λ e. absurd (o (ap (λ (x : ℕ). x / 16) e))))
      at (yes i) = rw (i, get_or-set_same s (q / 16) (bit_or (get_or s (q / 16) 0) (2 ^ (q % 16))) 0 within) (
        λ h. ⊎_elim inl (λ b. inr (let e = (has_one (q % 16) (p % 16)).0 b in omega arith)) ((has_or (get_or s (q / 16) 0) (2 ^ (q % 16)) (p % 16)).0 h),
        ⊎_elim (λ h. (has_or (get_or s (q / 16) 0) (2 ^ (q % 16)) (p % 16)).1 (inl h)) (λ e. (has_or (get_or s (q / 16) 0) (2 ^ (q % 16)) (p % 16)).1 (inr ((has_one (q % 16) (p % 16)).1 (ap (λ (x : ℕ). x % 16) e)))),
      )

  pub inserted_new : (InSet s q → ⊥) → Inserted s with_bit q true
  inserted_new fresh = record { was_new = (λ t. fresh, λ f. tt); members = bit_put }

pub inserted_there : (s : List ℕ) (q : ℕ) → InSet s q → Inserted s s q false
inserted_there s q h = record { was_new = (λ f. absurd f, λ f. absurd (f h)); members = λ p. (inl, ⊎_elim (λ i. i) (λ e. rw e h)) }

-- what was not put in was there
pub was_there : (s s' : List ℕ) (q : ℕ) (new : Bool) → Inserted s s' q new → (T new → ⊥) → InSet s q
was_there s s' q new ins old = at (has_decided (get_or s (q / 16) 0) (q % 16))
  where
    at : Dec (InSet s q) → InSet s q
    at (yes h) = h
    at (no o) = absurd (old (ins.was_new.1 o))
