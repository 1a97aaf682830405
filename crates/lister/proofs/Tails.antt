-- Lines written one behind another into the tail of the buffer, and what is left once there is no room.
use Prim.Native.Nat.{ℕ, zero, suc, ◌+◌, ◌-◌, ◌≤◌, ◌<◌}
use native.Mathlib.Omega.{arith}
use native.Mathlib.Nat.{le_refl}
use mathlib.Core.Path.{◌≡◌, refl, sym, ap, ◌∙◌}
use mathlib.Core.List.{List, [], ◌++◌, append_assoc, append-nil}
use native.Mathlib.Decide.{dec_le}
use Rattle.lister.specs.Joined.{joined}
use lib.ListN.{length, take, drop, length-drop, drop_of_length-le}
use lib.Seq.{take_all}
use borrow.Rule.Slice.PartMut.{put_mid, mid_of, post_of, Post-is, mid_len}
use Rattle.text.specs.Put.{Put}
use Rattle.text.proofs.Puts.{put_append, put_length, put_past, put_place, put_tail}

-- the end is at most one past the room
pub put_end : {s before after : List ℕ} {start end : ℕ} → Put s before after start end → start ≤ suc (length before) → end ≤ suc (length after)
put_end p h = omega (arith, put_place p h, put_length p)

-- past the room, what is still to come is left out
pub put_rest : {s before after : List ℕ} {start end : ℕ} (t : List ℕ) → Put s before after start end → start ≤ suc (length before) → length after < end
    → Put (s ++ t) before after start end
put_rest {after = after} {end = end} t p h l =
    let e : end ≡ suc (length after) = omega (arith, put_end p h) in
    put_append p (rw e (put_past t after))

-- the tail from `end` on is lent, as `&mut out[end..]` has it
module _ {s : List ℕ} (out tail : List ℕ) (end r : ℕ) (within : end ≤ length out) (p : Put s (mid_of end (length out - end) out) tail 0 r) where
  tail_is : mid_of end (length out - end) out ≡ drop end out
  tail_is = take_all (length out - end) (drop end out) (omega (arith, length-drop end out))

  back_is : put_mid end (length out - end) out tail ≡ take end out ++ tail
  back_is =
      let none : post_of end (length out - end) out ≡ [] = Post-is end (length out) out within ∙ drop_of_length-le out (le_refl (length out)) in
      ap (λ (x : List ℕ). take end out ++ (tail ++ x)) none ∙ ap (λ (x : List ℕ). take end out ++ x) (append-nil tail)

  pub tail_put : Put s out (put_mid end (length out - end) out tail) end (end + r)
  tail_put = rw back_is (put_tail within (rw tail_is at p))

  pub tail_end : end + r ≤ suc (length out)
  tail_end = omega (arith, put_end p (omega arith), put_length p, mid_len end (length out) out (le_refl (length out)))

-- so many texts, and those still to come
pub joined_rest : (texts : ℕ → List ℕ) (i n : ℕ) → i ≤ n → (rest : List ℕ) × (joined texts n ≡ joined texts i ++ rest)
joined_rest texts i zero h = let e : i ≡ 0 = omega arith in ([], rw e refl)
joined_rest texts i (suc n) h = by (dec_le i n) (joined_rest texts i n)
  where
    by : Dec (i ≤ n) → (i ≤ n → (rest : List ℕ) × (joined texts n ≡ joined texts i ++ rest)) → (rest : List ℕ) × (joined texts (suc n) ≡ joined texts i ++ rest)
    by (yes l) before = let (rest, e) = before l in (rest ++ texts n, ap (λ (x : List ℕ). x ++ texts n) e ∙ append_assoc (joined texts i) rest (texts n))
    by (no l) before = let e : i ≡ suc n = omega arith in ([], rw e (sym (append-nil (joined texts (suc n)))))
