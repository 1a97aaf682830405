-- What `read` hands over: its own words and names in the lent room, and zeros behind them.
use Prim.Native.Nat.{ℕ, zero, suc, ◌-◌, ◌≤◌, ◌<◌}
use mathlib.Core.Path.{◌≡◌, refl, sym, ap, ◌∙◌}
use mathlib.Core.List.{List, [], ◌∷◌, ◌++◌}
use native.Mathlib.Omega.{arith}
use native.Mathlib.Nat.{sub-zero, suc-sub-suc}
use lib.ListN.{length, get_or, take, drop, set, replicate, length-append, length-replicate}
use lib.Seq.{take_all}
use Rattle.text.specs.Room.{in_room}
use Rattle.text.proofs.Rooms.{in_room_empty, take_in_room}

-- a list that fits, with zeros behind it
pub in_room_front : (n : ℕ) (xs : List ℕ) → length xs ≤ n → xs ++ replicate (n - length xs) 0 ≡ in_room n xs
in_room_front n [] h = rw sub-zero (sym (in_room_empty n))
in_room_front zero (x ∷ xs) h = absurd (omega arith)
in_room_front (suc n) (x ∷ xs) h = rw suc-sub-suc (ap (λ (l : List ℕ). x ∷ l) (in_room_front n xs (omega arith)))

-- of a list in a room that holds it all, the front is the list
pub front_is : (room : ℕ) (xs own : List ℕ) → own ≡ in_room room xs → length xs ≤ room → take (length xs) own ≡ xs
front_is room xs own e h =
    ap (take (length xs)) e ∙ take_in_room room xs (length xs) h (omega arith) ∙ take_all (length xs) xs (omega arith)

-- the front of one's own, handed over with zeros behind it
pub handed : (lent room count : ℕ) (xs own : List ℕ) → count ≡ length xs → own ≡ in_room room xs → length xs ≤ room → length xs ≤ lent
    → take count own ++ replicate (lent - length (take count own)) 0 ≡ in_room lent xs
handed lent room count xs own is e h fits =
    ap (λ (l : List ℕ). l ++ replicate (lent - length l) 0) (ap (λ (k : ℕ). take k own) is ∙ front_is room xs own e h) ∙ in_room_front lent xs fits

-- one's own with others behind it: its own elements, and then the others
module _ {A : Type 0} (z : A) where
  pub own_there : (own : List A) (k i : ℕ) (d : A) → i < length own → get_or own i d ≡ get_or (own ++ replicate k z) i z
  own_there [] k i d h = absurd (omega arith)
  own_there (x ∷ xs) k zero d h = refl
  own_there (x ∷ xs) k (suc i) d h = own_there xs k i d (omega arith)

  pub own_behind : (own : List A) (k i : ℕ) → length own ≤ i → get_or (own ++ replicate k z) i z ≡ z
  own_behind [] zero i h = refl
  own_behind [] (suc k) zero h = refl
  own_behind [] (suc k) (suc i) h = own_behind [] k i (omega arith)
  own_behind (x ∷ xs) k zero h = absurd (omega arith)
  own_behind (x ∷ xs) k (suc i) h = own_behind xs k i (omega arith)

  pub own_length : (own : List A) (n : ℕ) → length own ≤ n → length (own ++ replicate (n - length own) z) ≡ n
  own_length own n h = rw (length-append, length-replicate) (omega arith)

  -- one more place written: what is handed over so far, and what was there behind it
  pub hands_one : (all lent : List A) (i : ℕ) → length all ≡ length lent → i < length lent
      → set (take i all ++ drop i lent) i (get_or all i z) ≡ take (suc i) all ++ drop (suc i) lent
  hands_one [] [] i e h = absurd (omega arith)
  hands_one [] (y ∷ ys) i e h = absurd (omega arith)
  hands_one (x ∷ xs) [] i e h = absurd (omega arith)
  hands_one (x ∷ xs) (y ∷ ys) zero e h = refl
  hands_one (x ∷ xs) (y ∷ ys) (suc i) e h = ap (λ (l : List A). x ∷ l) (hands_one xs ys i (omega arith) (omega arith))

  -- with every place written, it is one's own with the others behind it
  pub hands_whole : (all lent : List A) (i : ℕ) → length all ≡ length lent → length lent ≤ i → take i all ++ drop i lent ≡ all
  hands_whole [] [] zero e h = refl
  hands_whole [] [] (suc i) e h = refl
  hands_whole [] (y ∷ ys) i e h = absurd (omega arith)
  hands_whole (x ∷ xs) [] i e h = absurd (omega arith)
  hands_whole (x ∷ xs) (y ∷ ys) zero e h = absurd (omega arith)
  hands_whole (x ∷ xs) (y ∷ ys) (suc i) e h = ap (λ (l : List A). x ∷ l) (hands_whole xs ys i (omega arith) (omega arith))
