-- Laws of writing into lent room: one behind another, into a lent tail, and what the room holds in the end.
use Prim.Native.Nat.{ℕ, zero, suc, ◌+◌, ◌≤◌, ◌<◌, min}
use mathlib.Core.Path.{◌≡◌, refl, sym, ap, ◌∙◌}
use mathlib.Core.List.{List, [], ◌∷◌, ◌++◌}
use native.Mathlib.Omega.{arith}
use native.Mathlib.Decide.{dec_le}
use lib.ListN.{length, take, drop, set, length-set, length-take, length-drop, take-append-drop}
use lib.Seq.{sets, length-sets, sets-eq, set_out, take_at}
use Rattle.text.specs.Put.{placed, Put}
use Rattle.text.specs.Room.{in_room}

-- a place that is no more than one past the room
pub placed_min : (room at : ℕ) (s : List ℕ) → at ≤ suc room → placed room at s ≡ min (at + length s) (suc room)
placed_min room at [] h = omega arith
placed_min room at (b ∷ s) h = placed_min room (min (at + 1) (room + 1)) s (omega arith) ∙ (omega arith)

-- past the room nothing is written
pub sets_out : (l : List ℕ) (at : ℕ) (s : List ℕ) → length l ≤ at → sets l at s ≡ l
sets_out l at [] h = refl
sets_out l at (b ∷ s) h = rw (set_out l at b h) (sets_out l (suc at) s (omega arith))

-- one behind another
pub placed_append : (room at : ℕ) (s t : List ℕ) → placed room at (s ++ t) ≡ placed room (placed room at s) t
placed_append room at [] t = refl
placed_append room at (b ∷ s) t = placed_append room (min (at + 1) (room + 1)) s t

pub sets_append : (l : List ℕ) (at : ℕ) (s t : List ℕ) → sets l at (s ++ t) ≡ sets (sets l at s) (placed (length l) at s) t
sets_append l at [] t = refl
sets_append l at (b ∷ s) t = go (dec_le (suc at) (length l + 1)) (sets_append (set l at b) (suc at) s t)
  where
    go : Dec (suc at ≤ length l + 1)
        → sets (set l at b) (suc at) (s ++ t) ≡ sets (sets (set l at b) (suc at) s) (placed (length (set l at b)) (suc at) s) t
        → sets l at (b ∷ s ++ t) ≡ sets (sets l at (b ∷ s)) (placed (length l) at (b ∷ s)) t
    go (yes h) ih =
        let e : min (at + 1) (length l + 1) ≡ suc at = omega arith in
        rw e (ih ∙ ap (λ (n : ℕ). sets (sets (set l at b) (suc at) s) (placed n (suc at) s) t) (length-set l at b))
    go (no h) ih =
        let e : min (at + 1) (length l + 1) ≡ suc (length l) = omega arith in
        let o : length l ≤ at = omega arith in
        let o' : length l ≤ suc at = omega arith in
        let p : length l ≤ placed (length l) (suc (length l)) s = rw (placed_min (length l) (suc (length l)) s (omega arith)) (omega arith) in
        let same = set_out l at b o in
        let front = ap (λ (k : List ℕ). sets k (suc at) (s ++ t)) same ∙ sets_out l (suc at) (s ++ t) o' in
        let both = ap (λ (k : List ℕ). sets k (suc at) s) same ∙ sets_out l (suc at) s o' in
        rw e (front ∙ sym (ap (λ (k : List ℕ). sets k (placed (length l) (suc (length l)) s) t) both ∙ sets_out l (placed (length l) (suc (length l)) s) t p))

pub put_length : {s before after : List ℕ} {at r : ℕ} → Put s before after at r → length after ≡ length before
put_length {s} {before} {after} {at} {r} p = ap length p.bytes ∙ length-sets before at s

pub put_nothing : (before : List ℕ) (at : ℕ) → Put [] before before at at
put_nothing before at = record { bytes = refl; place = refl }

pub put_append : {s t o₀ o₁ o₂ : List ℕ} {e₀ e₁ e₂ : ℕ} → Put s o₀ o₁ e₀ e₁ → Put t o₁ o₂ e₁ e₂ → Put (s ++ t) o₀ o₂ e₀ e₂
put_append {s} {t} {o₀} {o₁} {o₂} {e₀} {e₁} {e₂} p q =
    record {
      bytes = rw (sets_append o₀ e₀ s t, ← p.bytes, ← p.place) q.bytes;
      place = rw (placed_append (length o₀) e₀ s t, ← p.place, ← put_length p) q.place;
    }

-- past the room all that is written is left out
pub put_past : (s out : List ℕ) → Put s out out (suc (length out)) (suc (length out))
put_past s out =
    record {
      bytes = sym (sets_out out (suc (length out)) s (omega arith));
      place = rw (placed_min (length out) (suc (length out)) s (omega arith)) (omega arith);
    }

pub put_place : {s before after : List ℕ} {at r : ℕ} → Put s before after at r → at ≤ suc (length before) → r ≡ min (at + length s) (suc (length before))
put_place {s} {before} {after} {at} {r} p h = p.place ∙ placed_min (length before) at s h

-- a lent tail: what is written into it stands in the whole
set_behind_front : (p q : List ℕ) (n i b : ℕ) → n ≡ length p + i → set (p ++ q) n b ≡ p ++ set q i b
set_behind_front [] q n i b e = ap (λ (k : ℕ). set q k b) (let z : n ≡ i = omega arith in z)
set_behind_front (x ∷ p) q zero i b e = absurd (omega arith)
set_behind_front (x ∷ p) q (suc n) i b e = ap (λ (l : List ℕ). x ∷ l) (set_behind_front p q n i b (omega arith))

sets_behind_front : (p q : List ℕ) (n i : ℕ) (s : List ℕ) → n ≡ length p + i → sets (p ++ q) n s ≡ p ++ sets q i s
sets_behind_front p q n i [] e = refl
sets_behind_front p q n i (b ∷ s) e =
    rw (set_behind_front p q n i b e) (sets_behind_front p (set q i b) (suc n) (suc i) s (omega arith))

pub put_tail : {s before tail : List ℕ} {end r : ℕ} → end ≤ length before → Put s (drop end before) tail 0 r → Put s before (take end before ++ tail) end (end + r)
put_tail {s} {before} {tail} {end} {r} h p =
    let n : end ≡ length (take end before) + 0 = omega (arith, length-take end before) in
    record {
      bytes = rw p.bytes (sym (ap (λ (l : List ℕ). sets l end s) (sym (take-append-drop end before)) ∙ sets_behind_front (take end before) (drop end before) end 0 s n));
      place =
          let q = put_place p (omega arith) in
          rw (placed_min (length before) end s (omega arith)) (omega (arith, length-drop end before));
    }

-- what was written from the start of the room, where it had room
module _ {s before after : List ℕ} {r : ℕ} (p : Put s before after 0 r) where
  pub put_count : r ≤ length before → length s ≡ r
  put_count h = let q = put_place p (omega arith) in omega arith

  pub put_front : r ≤ length before → take r after ≡ s
  put_front h =
      let n = put_count h in
      rw (p.bytes, sets-eq s before 0 (omega arith)) (take_at s (drop (0 + length s) before) r n)

  -- with zeros behind it the room holds it
  pub put_roomed : r ≤ length before → in_room (length after) (take r after) ≡ in_room (length before) s
  put_roomed h = rw (put_front h, put_length p)

  -- and where it had none
  pub put_over : length before < r → length before < length s
  put_over h = let q = put_place p (omega arith) in omega arith
