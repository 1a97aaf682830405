-- Lists of all that a rule finds: for each element of a list, what stands at a place, and which elements they have.
use Prim.Native.Nat.{ℕ, zero, suc}
use mathlib.Core.Path.{◌≡◌, refl}
use mathlib.Core.Logic.{◌⊎◌, inl, inr}
use mathlib.Core.List.Memᴰ
use mathlib.Core.List.{List, [], ◌∷◌, ◌++◌, map, Memᴰ}
use Rattle.program.specs.Program.{Nth, here, there}
use Rattle.program.specs.Shapes.{with}
use Rattle.program.proofs.ShapeLaws.{with_keeps, with_has, has_with}

-- what f lists for each element, one after the other
abbrev pub each : {A B : Type 0} → List A → (A → List B) → List B
each [] f = []
each (a ∷ l) f = f a ++ each l f

pub each_has : {A B : Type 0} (l : List A) (f : A → List B) {a : A} {b : B} → Memᴰ a l → Memᴰ b (f a) → Memᴰ b (each l f)
each_has {A = A} {B = B} [] f {a = a} {b = b} x'' m = elim x'' [ ]
each_has (c ∷ l) f (Memᴰ.head e) m = Memᴰ.append_left (each l f) (rw e at m)
each_has (c ∷ l) f (Memᴰ.tail h) m = Memᴰ.append_right (f c) (each_has l f h m)

pub has_each : {A B : Type 0} (l : List A) (f : A → List B) {b : B} → Memᴰ b (each l f) → (a : A) × Memᴰ a l × Memᴰ b (f a)
has_each {A = A} {B = B} [] f {b = b} m = elim m [ ]
has_each {A} {B} (c ∷ l) f {b} m = at (has_each l f) (Memᴰ.append_cases (f c) m)
  where
    at : (Memᴰ b (each l f) → (a : A) × Memᴰ a l × Memᴰ b (f a)) → Memᴰ b (f c) ⊎ Memᴰ b (each l f)
        → (a : A) × Memᴰ a (c ∷ l) × Memᴰ b (f a)
    at below (inl m') = (c, Memᴰ.head refl, m')
    at below (inr m') = let (a, h, m'') = below m' in (a, Memᴰ.tail h, m'')

pub has_map : {A B : Type 0} (f : A → B) (l : List A) {b : B} → Memᴰ b (map f l) → (a : A) × Memᴰ a l × (b ≡ f a)
has_map {A = A} {B = B} f [] {b = b} x' = elim x' [ ]
has_map f (c ∷ l) (Memᴰ.head e) = (c, Memᴰ.head refl, e)
has_map f (c ∷ l) (Memᴰ.tail m) = let (a, h, e) = has_map f l m in (a, Memᴰ.tail h, e)

-- what stands at place n: one, or none
abbrev pub at : {A : Type 0} → List A → ℕ → List A
at [] n = []
at (a ∷ l) zero = a ∷ []
at (a ∷ l) (suc n) = at l n

pub at_has : {A : Type 0} {l : List A} {n : ℕ} {a : A} → Nth l n a → Memᴰ a (at l n)
at_has here = Memᴰ.head refl
at_has (there h) = at_has h

pub has_at : {A : Type 0} (l : List A) (n : ℕ) {a : A} → Memᴰ a (at l n) → Nth l n a
has_at {A = A} (b ∷ l) zero {a = a} (Memᴰ.tail x7) = elim x7 [ ]
has_at {A = A} [] n {a = a} m = elim m [ ]
has_at (b ∷ l) zero (Memᴰ.head e) = rw e here
has_at (b ∷ l) (suc n) m = there (has_at l n m)

-- the places of a list
abbrev pub places : {A : Type 0} → List A → List ℕ
places [] = []
places (a ∷ l) = zero ∷ map suc (places l)

pub places_has : {A : Type 0} {l : List A} {n : ℕ} {a : A} → Nth l n a → Memᴰ n (places l)
places_has here = Memᴰ.head refl
places_has (there {rest = rest} {n = n} h) = Memᴰ.tail (Memᴰ.map suc (places_has h))

-- one list behind another, each element once
abbrev pub behind : {A : Type 0} → Discrete A → List A → List A → List A
behind same l [] = l
behind same l (a ∷ new) = behind same (with same l a) new

module _ {A : Type 0} (same : Discrete A) where
  pub behind_keeps : (new l : List A) (a : A) → Memᴰ a l → Memᴰ a (behind same l new)
  behind_keeps [] l a m = m
  behind_keeps (b ∷ new) l a m = behind_keeps new (with same l b) a (with_keeps same l b a m)

  pub behind_has : (new l : List A) (a : A) → Memᴰ a new → Memᴰ a (behind same l new)
  behind_has [] l a x' = elim x' [ ]
  behind_has (b ∷ new) l a (Memᴰ.head e) = behind_keeps new (with same l b) a (rw e (with_has same l b))
  behind_has (b ∷ new) l a (Memᴰ.tail m) = behind_has new (with same l b) a m

  pub has_behind : (new l : List A) (a : A) → Memᴰ a (behind same l new) → Memᴰ a l ⊎ Memᴰ a new
  has_behind [] l a m = inl m
  has_behind (b ∷ new) l a m = go (has_behind new (with same l b) a m)
    where
      last : Memᴰ a l ⊎ (a ≡ b) → Memᴰ a l ⊎ Memᴰ a (b ∷ new)
      last (inl m') = inl m'
      last (inr e) = inr (Memᴰ.head e)

      go : Memᴰ a (with same l b) ⊎ Memᴰ a new → Memᴰ a l ⊎ Memᴰ a (b ∷ new)
      go (inl m') = last (has_with same l b a m')
      go (inr m') = inr (Memᴰ.tail m')
