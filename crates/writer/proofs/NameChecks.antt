-- The check of the names, one after another: what one step knows.
use Prim.Native.Nat.{ℕ, suc, ◌+◌, ◌-◌, ◌*◌, ◌≤◌, ◌<◌}
use mathlib.Core.Path.{◌≡◌, refl, ap, ◌∙◌}
use mathlib.Core.Bool.{Bool, true, false, cond}
use mathlib.Core.List.{List}
use native.Mathlib.Omega.{arith}
use native.Mathlib.Decide.{dec_lt}
use lib.ListN.{length, get_or, take, drop, set}
use lib.Seq.{get_or-set_same, get_or-set_other}
use lib.Dec.{ltb}
use borrow.Author.Tests.{ltb-false}
use Rattle.program.specs.Reply.{bad_name}
use Rattle.text.specs.Line.{up_to}
use Rattle.text.specs.Name.{name_bytes, entry, hash_of, Hashed}
use Rattle.text.proofs.Cuts.{up_to_take}
use Rattle.cells.specs.TextSoFar.{wrong, right}
use Rattle.written_lines.specs.Tokens.{name_in}
use Rattle.writer.specs.Names.{first_of, is_sound, each_name}

-- the bytes before the first zero are the name
pub name_front : (key : List ℕ) (end : ℕ) → end ≡ 0 + length (up_to 0 (drop 0 key)) → take end key ≡ name_in key
name_front key end e = let n : end ≡ length (up_to 0 key) = omega arith in rw n (up_to_take 0 key)

pub first_within : (predicates i : ℕ) → first_of predicates i ≤ i
first_within predicates i = by (ltb i predicates) refl
  where
    by : (t : Bool) → ltb i predicates ≡ t → cond t 0 predicates ≤ i
    by true e = omega arith
    by false e = ltb-false _ _ e

-- one hash more
pub hashed_more : (names hashes : List ℕ) (i m : ℕ) → i < length hashes → m ≡ hash_of (entry names i) → Hashed names hashes 0 i → Hashed names (set hashes i m) 0 (i + 1)
hashed_more names hashes i m h e hashed k l less = by (dec_lt k i)
  where
    by : Dec (k < i) → get_or (set hashes i m) k 0 ≡ hash_of (entry names k)
    by (yes b) = get_or-set_other hashes i k m 0 (λ z. omega arith) ∙ hashed k l b
    by (no b) = let z : i ≡ k = omega arith in rw (← z) (get_or-set_same hashes i m 0 h ∙ e)

-- one step of the check
module _ (names : List ℕ) (predicates i symbols : ℕ) where
  pub each_stops : i < symbols → is_sound names predicates i ≡ false → each_name names predicates i (symbols - i) ≡ wrong bad_name (i * name_bytes)
  each_stops h e = let n : symbols - i ≡ suc (symbols - suc i) = omega arith in rw (n, e)

  pub each_goes_on : i < symbols → is_sound names predicates i ≡ true
      → each_name names predicates i (symbols - i) ≡ each_name names predicates (suc i) (symbols - suc i)
  each_goes_on h e = let n : symbols - i ≡ suc (symbols - suc i) = omega arith in rw (n, e)

  pub each_ends : symbols ≤ i → each_name names predicates i (symbols - i) ≡ right names
  each_ends h = let n : symbols - i ≡ 0 = omega arith in rw n
