-- Counting by taking out: a list without one of its elements is one shorter, so that a list with every number below n has n elements or more.
use Prim.Native.Nat.{ℕ, zero, suc, ◌≤◌, ◌<◌}
use native.Mathlib.Omega.{arith}
use mathlib.Core.Path.{◌≡◌, refl, sym, ◌∙◌}
use mathlib.Core.Logic.{◌⊎◌, inl, inr}
use mathlib.Core.List.Memᴰ
use mathlib.Core.List.{[], List, ◌∷◌, Memᴰ}
use lib.ListN.{length}

-- a list that has a, without it: one shorter, and it has every other element that it had
pub record Without {A : Type 0} (a : A) (l : List A) : Type 0 where
  pub rest : List A
  pub shorter : length l ≡ suc (length rest)
  pub has : (b : A) → (b ≡ a → ⊥) → Memᴰ b l → Memᴰ b rest

pub without : {A : Type 0} (a : A) (l : List A) → Memᴰ a l → Without a l
without {A = A} a [] x' = elim x' [ ]
without {A} a (c ∷ l) (Memᴰ.head e) = record { rest = l; shorter = refl; has = λ b ne h. other b ne (Memᴰ.cases_cons h) }
  where
    other : (b : A) → (b ≡ a → ⊥) → (b ≡ c) ⊎ Memᴰ b l → Memᴰ b l
    other b ne (inl d) = absurd (ne (d ∙ sym e))
    other b ne (inr h) = h
without {A} a (c ∷ l) (Memᴰ.tail h) = behind (without a l h)
  where
    other : (w : Without a l) (b : A) → (b ≡ a → ⊥) → (b ≡ c) ⊎ Memᴰ b l → Memᴰ b (c ∷ w.rest)
    other w b ne (inl d) = Memᴰ.head d
    other w b ne (inr h) = Memᴰ.tail (w.has b ne h)

    behind : Without a l → Without a (c ∷ l)
    behind w = record { rest = c ∷ w.rest; shorter = rw w.shorter; has = λ b ne h. other w b ne (Memᴰ.cases_cons h) }

-- a list that has every number below n has n elements or more
pub all_below_count : (n : ℕ) (l : List ℕ) → ((m : ℕ) → m < n → Memᴰ m l) → n ≤ length l
all_below_count zero l h = omega arith
all_below_count (suc n) l h =
    let w = without n l (h n (omega arith)) in
    let c = all_below_count n w.rest (λ m less. w.has m (λ e. absurd (omega arith)) (h m (omega arith))) in
    omega (arith, w.shorter)
