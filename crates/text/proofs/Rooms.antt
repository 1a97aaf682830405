-- Laws of what lent room holds: its length, its elements, and a write into it.
use Prim.Native.Nat.{ℕ, zero, suc, ◌-◌, ◌≤◌, ◌<◌}
use mathlib.Core.Path.{◌≡◌, refl, sym, ap, ◌∙◌}
use mathlib.Core.List.{List, [], ◌∷◌, ◌++◌}
use native.Mathlib.Omega.{arith}
use native.Mathlib.Nat.{zero-sub, sub-zero, suc-sub-suc}
use lib.ListN.{length, get_or, take, drop, set, replicate}
use lib.Seq.{take_all}
use Rattle.text.specs.Room.{in_room}

pub length_in_room : (n : ℕ) (xs : List ℕ) → length (in_room n xs) ≡ n
length_in_room zero xs = refl
length_in_room (suc n) [] = ap suc (length_in_room n [])
length_in_room (suc n) (x ∷ xs) = ap suc (length_in_room n xs)

pub in_room_empty : (n : ℕ) → in_room n [] ≡ replicate n 0
in_room_empty zero = refl
in_room_empty (suc n) = ap (λ (l : List ℕ). 0 ∷ l) (in_room_empty n)

pub get_d_in_room : (n : ℕ) (xs : List ℕ) (i : ℕ) → i < n → get_or (in_room n xs) i 0 ≡ get_or xs i 0
get_d_in_room zero xs i h = absurd (omega arith)
get_d_in_room (suc n) [] zero h = refl
get_d_in_room (suc n) [] (suc i) h = get_d_in_room n [] i (omega arith)
get_d_in_room (suc n) (x ∷ xs) zero h = refl
get_d_in_room (suc n) (x ∷ xs) (suc i) h = get_d_in_room n xs i (omega arith)

-- one more behind the list
pub set_behind : (n : ℕ) (xs : List ℕ) (y : ℕ) → set (in_room n xs) (length xs) y ≡ in_room n (xs ++ y ∷ [])
set_behind zero xs y = refl
set_behind (suc n) [] y = refl
set_behind (suc n) (x ∷ xs) y = ap (λ (l : List ℕ). x ∷ l) (set_behind n xs y)

-- one within the list written anew
pub set_within : (n : ℕ) (xs : List ℕ) (x : ℕ) (ys : List ℕ) (y : ℕ) → set (in_room n (xs ++ x ∷ ys)) (length xs) y ≡ in_room n (xs ++ y ∷ ys)
set_within zero xs x ys y = refl
set_within (suc n) [] x ys y = refl
set_within (suc n) (w ∷ xs) x ys y = ap (λ (l : List ℕ). w ∷ l) (set_within n xs x ys y)

-- a list that fits stands whole in front
pub take_in_room : (n : ℕ) (xs : List ℕ) (m : ℕ) → m ≤ n → m ≤ length xs → take m (in_room n xs) ≡ take m xs
take_in_room n xs zero h k = refl
take_in_room zero xs (suc m) h k = absurd (omega arith)
take_in_room (suc n) [] (suc m) h k = absurd (omega arith)
take_in_room (suc n) (x ∷ xs) (suc m) h k = ap (λ (l : List ℕ). x ∷ l) (take_in_room n xs m (omega arith) (omega arith))

-- behind a front that fits, the room that is left holds the rest
pub drop_in_room : (n : ℕ) (xs : List ℕ) (m : ℕ) → drop m (in_room n xs) ≡ in_room (n - m) (drop m xs)
drop_in_room n xs zero = rw sub-zero
drop_in_room zero [] (suc m) = rw zero-sub
drop_in_room zero (x ∷ xs) (suc m) = rw zero-sub
drop_in_room (suc n) [] (suc m) = rw suc-sub-suc (drop_in_room n [] m ∙ ap (in_room (n - m)) (drop_none m))
  where
    drop_none : (k : ℕ) → ◌≡◌ {A = List ℕ} (drop k []) []
    drop_none zero = refl
    drop_none (suc k) = refl
drop_in_room (suc n) (x ∷ xs) (suc m) = rw suc-sub-suc (drop_in_room n xs m)

-- what has no room may be left out at once
pub in_room_take : (n : ℕ) (xs : List ℕ) → in_room n (take n xs) ≡ in_room n xs
in_room_take zero xs = refl
in_room_take (suc n) [] = refl
in_room_take (suc n) (x ∷ xs) = ap (λ (l : List ℕ). x ∷ l) (in_room_take n xs)

-- zeros from a place on
pub cleared : (l : List ℕ) (i : ℕ) → take i l ++ replicate (length l - i) 0 ≡ in_room (length l) (take i l)
cleared l zero = rw sub-zero (sym (in_room_empty (length l)))
cleared [] (suc i) = rw zero-sub
cleared (x ∷ xs) (suc i) = rw suc-sub-suc (ap (λ (l : List ℕ). x ∷ l) (cleared xs i))

in_room_all : (l : List ℕ) → in_room (length l) l ≡ l
in_room_all [] = refl
in_room_all (x ∷ xs) = ap (λ (l : List ℕ). x ∷ l) (in_room_all xs)

pub cleared_none : (l : List ℕ) (i : ℕ) → length l ≤ i → l ≡ in_room (length l) (take i l)
cleared_none l i h = rw (take_all i l h) (sym (in_room_all l))
