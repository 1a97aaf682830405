-- Lists without repetition: counting, one list behind another.
use Prim.Native.Nat.{◌≤◌}
use native.Mathlib.Omega.{arith}
use mathlib.Core.Path.{◌≡◌, refl, sym}
use mathlib.Core.Logic.{⊎_elim}
use mathlib.Core.List.Memᴰ
use mathlib.Core.List.{List, [], ◌∷◌, ◌++◌, map, Memᴰ}
use lib.ListN.{length}
use Rattle.program.specs.Lists.{Distinct}
use Rattle.program.proofs.Counting.{without}
use Rattle.table.proofs.Lists.{has_map}

-- distinct elements that are all in another list are no more than its elements
pub distinct_length : {A : Type 0} (l m : List A) → Distinct l → ((a : A) → Memᴰ a l → Memᴰ a m) → length l ≤ length m
distinct_length [] m d h = omega arith
distinct_length (a ∷ l) m (na, d) h =
    let w = without a m (h a (Memᴰ.head refl)) in
    let c = distinct_length l w.rest d (λ b mb. w.has b (λ e. na (Memᴰ.cast (sym e) mb)) (h b (Memᴰ.tail mb))) in
    omega (arith, w.shorter)

-- the images of distinct elements are distinct where no two of them have the same
pub distinct_map : {A B : Type 0} (f : A → B) (l : List A) → Distinct l
    → ((a b : A) → Memᴰ a l → Memᴰ b l → f a ≡ f b → a ≡ b) → Distinct (map f l)
distinct_map f [] d one = tt
distinct_map f (a ∷ l) (na, d) one = (
  λ m. let (b, mb, e) = has_map f l m in na (Memᴰ.cast (one a b (Memᴰ.head refl) (Memᴰ.tail mb) e) mb),
  distinct_map f l d (λ b c mb mc. one b c (Memᴰ.tail mb) (Memᴰ.tail mc)),
)

-- two lists without repetition that share nothing are one
pub distinct_append : {A : Type 0} (l m : List A) → Distinct l → Distinct m → ((a : A) → Memᴰ a m → Memᴰ a l → ⊥) → Distinct (l ++ m)
distinct_append [] m d d' apart = d'
distinct_append (a ∷ l) m (na, d) d' apart = (
  λ h. ⊎_elim na (λ ma. apart a ma (Memᴰ.head refl)) (Memᴰ.append_cases l h),
  distinct_append l m d d' (λ b mb mb'. apart b mb (Memᴰ.tail mb')),
)
