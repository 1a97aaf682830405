-- Lists in which each stands once, in the order of the first appearances: the laws of `place` and `with`.
use Prim.Native.Nat.{ℕ, zero, suc}
use native.Mathlib.Omega.{arith}
use mathlib.Core.Path.{◌≡◌, refl, sym, ap, ◌∙◌}
use mathlib.Core.Logic.{◌⊎◌, inl, inr, ⊎_elim}
use mathlib.Core.List.Memᴰ
use mathlib.Core.List.{List, [], ◌∷◌, ◌++◌, map}
use lib.ListN.{length}
use Rattle.program.specs.Lists.{Distinct}
use Rattle.program.specs.Program.{Nth, here, there}
use Rattle.program.specs.Shapes.{place, with}
use Rattle.program.proofs.Nths.{nth_below, nth_left, nth_last, last_nth}
use Rattle.program.proofs.ShapeLaws.{has_with}

-- a stands somewhere in the list
abbrev pub Somewhere : {A : Type 0} → List A → A → Type 0
Somewhere l a = (i : ℕ) × Nth l i a

pub nth_first : {A : Type 0} {a b : A} {l : List A} → Nth (b ∷ l) zero a → a ≡ b
nth_first here = refl

pub nth_later : {A : Type 0} {a b : A} {l : List A} {i : ℕ} → Nth (b ∷ l) (suc i) a → Nth l i a
nth_later (there n) = n

pub nth_map : {A B : Type 0} {a : A} {l : List A} {i : ℕ} (f : A → B) → Nth l i a → Nth (map f l) i (f a)
nth_map f here = here
nth_map f (there n) = there (nth_map f n)

pub map_nth : {A B : Type 0} (f : A → B) (l : List A) (i : ℕ) (b : B) → Nth (map f l) i b → (a : A) × Nth l i a × (b ≡ f a)
map_nth {A = A} {B = B} f [] i b n = elim n [ ]
map_nth f (x ∷ l) zero b n = (x, here, nth_first n)
map_nth f (x ∷ l) (suc i) b n = let r = map_nth f l i b (nth_later n) in (r.0, there r.1, r.2)

module _ {A : Type 0} (same : Discrete A) where
  place_here : (a b : A) (l : List A) → a ≡ b → place same a (b ∷ l) ≡ zero
  place_here a b l e = by (same a b)
    where
      by : (d : Dec (a ≡ b)) → ◌≡◌ {A = ℕ} (elim d [ yes _ ↦ zero | no _ ↦ suc (place same a l) ]) zero
      by (yes _) = refl
      by (no n) = absurd (n e)

  place_there : (a b : A) (l : List A) → (a ≡ b → ⊥) → place same a (b ∷ l) ≡ suc (place same a l)
  place_there a b l n = by (same a b)
    where
      by : (d : Dec (a ≡ b)) → ◌≡◌ {A = ℕ} (elim d [ yes _ ↦ zero | no _ ↦ suc (place same a l) ]) (suc (place same a l))
      by (yes e) = absurd (n e)
      by (no _) = refl

  with_here : (a b : A) (l : List A) → a ≡ b → with same (b ∷ l) a ≡ b ∷ l
  with_here a b l e = by (same a b)
    where
      by : (d : Dec (a ≡ b)) → ◌≡◌ {A = List A} (elim d [ yes _ ↦ b ∷ l | no _ ↦ b ∷ with same l a ]) (b ∷ l)
      by (yes _) = refl
      by (no n) = absurd (n e)

  with_there : (a b : A) (l : List A) → (a ≡ b → ⊥) → with same (b ∷ l) a ≡ b ∷ with same l a
  with_there a b l n = by (same a b)
    where
      by : (d : Dec (a ≡ b)) → ◌≡◌ {A = List A} (elim d [ yes _ ↦ b ∷ l | no _ ↦ b ∷ with same l a ]) (b ∷ with same l a)
      by (yes e) = absurd (n e)
      by (no _) = refl

  elsewhere : {a b : A} {l : List A} → (a ≡ b → ⊥) → (Somewhere l a → ⊥) → (i : ℕ) → Nth (b ∷ l) i a → ⊥
  elsewhere n m zero s = n (nth_first s)
  elsewhere n m (suc i) s = m (i, nth_later s)

  -- a list by one is the list, or has it behind; and it is new then
  pub with_cases : (l : List A) (a : A) → ((with same l a ≡ l) × Somewhere l a) ⊎ ((with same l a ≡ l ++ a ∷ []) × (Somewhere l a → ⊥))
  with_cases [] a = inr (refl, λ s. let h = nth_below s.1 in omega arith)
  with_cases (b ∷ l) a = by (same a b) (with_cases l a)
    where
      by : Dec (a ≡ b) → ((with same l a ≡ l) × Somewhere l a) ⊎ ((with same l a ≡ l ++ a ∷ []) × (Somewhere l a → ⊥))
          → ((with same (b ∷ l) a ≡ b ∷ l) × Somewhere (b ∷ l) a) ⊎ ((with same (b ∷ l) a ≡ (b ∷ l) ++ a ∷ []) × (Somewhere (b ∷ l) a → ⊥))
      by (yes e) w = inl (with_here a b l e, (zero, rw e here))
      by (no n) (inl w) = inl (with_there a b l n ∙ ap (λ (x : List A). b ∷ x) w.0, (suc w.1.0, there w.1.1))
      by (no n) (inr w) = inr (with_there a b l n ∙ ap (λ (x : List A). b ∷ x) w.0, λ s. elsewhere n w.1 s.0 s.1)

  -- the place of what stands in the list is one where it stands
  pub place_stands : (a : A) (l : List A) (i : ℕ) → Nth l i a → Nth l (place same a l) a
  place_stands a [] i n = elim n [ ]
  place_stands a (b ∷ l) i n = by i n (same a b) (λ j m. place_stands a l j m)
    where
      by : (i : ℕ) → Nth (b ∷ l) i a → Dec (a ≡ b) → ((j : ℕ) → Nth l j a → Nth l (place same a l) a) → Nth (b ∷ l) (place same a (b ∷ l)) a
      by i n (yes e) ih = rw (place_here a b l e) (rw e here)
      by zero n (no d) ih = absurd (d (nth_first n))
      by (suc i) n (no d) ih = rw (place_there a b l d) (there (ih i (nth_later n)))

  pub with_distinct : (l : List A) (a : A) → Distinct l → Distinct (with same l a)
  with_distinct [] a d = (λ m. Memᴰ.not-nil m, tt)
  with_distinct (b ∷ l) a (nb, d) = by (same a b) (with_distinct l a d)
    where
      by : Dec (a ≡ b) → Distinct (with same l a) → Distinct (with same (b ∷ l) a)
      by (yes e) r = rw (with_here a b l e) (nb, d)
      by (no n) r = rw (with_there a b l n) (λ m. ⊎_elim nb (λ e. n (sym e)) (has_with same l a b m), r)

  pub with_stands : (l : List A) (a : A) → Somewhere (with same l a) a
  with_stands l a = by (with_cases l a)
    where
      by : ((with same l a ≡ l) × Somewhere l a) ⊎ ((with same l a ≡ l ++ a ∷ []) × (Somewhere l a → ⊥)) → Somewhere (with same l a) a
      by (inl w) = rw w.0 w.1
      by (inr w) = rw w.0 (length l, last_nth l a)

  -- what stands in the list stands there with one more
  pub with_keeps : (l : List A) (a b : A) (i : ℕ) → Nth l i b → Nth (with same l a) i b
  with_keeps l a b i n = by (with_cases l a)
    where
      by : ((with same l a ≡ l) × Somewhere l a) ⊎ ((with same l a ≡ l ++ a ∷ []) × (Somewhere l a → ⊥)) → Nth (with same l a) i b
      by (inl w) = rw w.0 n
      by (inr w) = rw w.0 (nth_left (a ∷ []) n)

  -- what stands in a list by one stood there or is the one
  pub with_sound : (l : List A) (a b : A) (i : ℕ) → Nth (with same l a) i b → Somewhere l b ⊎ (b ≡ a)
  with_sound l a b i n = by (with_cases l a)
    where
      last : Nth l i b ⊎ ((i ≡ length l) × (a ≡ b)) → Somewhere l b ⊎ (b ≡ a)
      last (inl m) = inl (i, m)
      last (inr e) = inr (sym e.1)

      by : ((with same l a ≡ l) × Somewhere l a) ⊎ ((with same l a ≡ l ++ a ∷ []) × (Somewhere l a → ⊥)) → Somewhere l b ⊎ (b ≡ a)
      by (inl w) = inl (i, rw w.0 at n)
      by (inr w) = last (nth_last l (rw w.0 at n))
