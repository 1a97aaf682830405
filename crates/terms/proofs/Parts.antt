-- Parts of a list as the code takes them, and elements inside a list.
use Prim.Native.Nat.{ℕ, zero, suc, ◌-◌, ◌<◌}
use mathlib.Core.Path.{◌≡◌, refl}
use mathlib.Core.List.{List, [], ◌∷◌}
use native.Mathlib.Omega.{arith}
use lib.ListN.{length, get_or, take, drop, length-drop}
use lib.Seq.{take_all}

-- the part of a slice from a place on, as `&s[p..]` has it
pub part_from : (l : List ℕ) (p : ℕ) → take (length l - p) (drop p l) ≡ drop p l
part_from l p = take_all (length l - p) (drop p l) (rw length-drop (omega arith))

-- inside a list it does not matter what is said of its end
pub same_inside : (l : List ℕ) (i d e : ℕ) → i < length l → get_or l i d ≡ get_or l i e
same_inside [] i d e h = absurd (omega arith)
same_inside (x ∷ l) zero d e h = refl
same_inside (x ∷ l) (suc i) d e h = same_inside l i d e (omega arith)
