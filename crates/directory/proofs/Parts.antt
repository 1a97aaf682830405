-- Parts of a list: two that agree word by word are equal, and equal ones agree.
use Prim.Native.Nat.{ℕ, ◌+◌, ◌≤◌, ◌<◌}
use native.Mathlib.Omega.{arith}
use mathlib.Core.Path.{◌≡◌, sym, ap, ◌∙◌}
use mathlib.Core.List.{List}
use lib.ListN.{length, get_or, take, drop, length-drop}
use lib.Seq.{ext_get_or, get_or-take, get_or-drop, length-take-le}

pub part_length : (l : List ℕ) (a n : ℕ) → a + n ≤ length l → length (take n (drop a l)) ≡ n
part_length l a n h = length-take-le n (drop a l) (omega (arith, length-drop a l))

pub part_at : (l : List ℕ) (a n i : ℕ) → i < n → get_or (take n (drop a l)) i 0 ≡ get_or l (a + i) 0
part_at l a n i h = get_or-take n (drop a l) i 0 h ∙ get_or-drop a l i 0

-- a part is a list where it agrees with it word by word
pub part_is : (l : List ℕ) (a n : ℕ) (m : List ℕ) → a + n ≤ length l → length m ≡ n → ((i : ℕ) → i < n → get_or l (a + i) 0 ≡ get_or m i 0) → take n (drop a l) ≡ m
part_is l a n m h e same =
    ext_get_or 0 (take n (drop a l)) m (part_length l a n h ∙ sym e)
    (λ i less. let q : i < n = omega (arith, part_length l a n h) in part_at l a n i q ∙ same i q)

-- two parts that agree word by word
pub parts_same : (l m : List ℕ) (a b n : ℕ) → a + n ≤ length l → b + n ≤ length m → ((i : ℕ) → i < n → get_or l (a + i) 0 ≡ get_or m (b + i) 0)
    → take n (drop a l) ≡ take n (drop b m)
parts_same l m a b n h h' same =
    part_is l a n (take n (drop b m)) h (part_length m b n h') (λ i less. same i less ∙ sym (part_at m b n i less))

pub same_parts : (l m : List ℕ) (a b n : ℕ) → take n (drop a l) ≡ take n (drop b m) → (i : ℕ) → i < n → get_or l (a + i) 0 ≡ get_or m (b + i) 0
same_parts l m a b n e i h = sym (part_at l a n i h) ∙ ap (λ (k : List ℕ). get_or k i 0) e ∙ part_at m b n i h
