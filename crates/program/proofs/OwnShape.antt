-- An atom whose variables are numbered from 0 by first appearance is its own shape.
use Prim.Native.Nat.{ℕ, zero, suc, ◌<◌}
use native.Mathlib.Omega.{arith}
use native.Mathlib.Decide.{ℕ_discrete, dec_lt}
use mathlib.Core.Path.{◌≡◌, refl, ap, ◌∙◌}
use mathlib.Core.Logic.{◌⊎◌, inl, inr}
use mathlib.Core.List.Memᴰ
use mathlib.Core.List.{List, [], ◌∷◌, ◌++◌, Memᴰ}
use lib.ListN.{length, length-append}
use Rattle.terms.specs.Term.{Term, var, Occ}
use Rattle.terms.proofs.Substs.{sub_agree, sub_var}
use Rattle.program.specs.Shapes.{place, with, met, number, shape_of}
use Rattle.program.proofs.ShapeLaws.{met_has}

module _ {A : Type 0} (same : Discrete A) where
  -- an element that is there is not put behind the list again
  pub with_old : (l : List A) (a : A) → Memᴰ a l → with same l a ≡ l
  with_old [] a m = elim m [ ]
  with_old (b ∷ l) a m = go (with_old l a) (Memᴰ.cases_cons m) (same a b)
    where
      go : (Memᴰ a l → with same l a ≡ l) → (a ≡ b) ⊎ Memᴰ a l → (d : Dec (a ≡ b)) → elim d as (λ _. List A) [ yes _ ↦ b ∷ l | no _ ↦ b ∷ with same l a ] ≡ b ∷ l
      go below m' (yes e) = refl
      go below (inl e) (no ne) = absurd (ne e)
      go below (inr m') (no ne) = ap (◌∷◌ b) (below m')

  pub with_new : (l : List A) (a : A) → (Memᴰ a l → ⊥) → with same l a ≡ l ++ (a ∷ [])
  with_new [] a nm = refl
  with_new (b ∷ l) a nm = go (with_new l a (λ m. nm (Memᴰ.tail m))) (same a b)
    where
      go : with same l a ≡ l ++ (a ∷ []) → (d : Dec (a ≡ b)) → elim d as (λ _. List A) [ yes _ ↦ b ∷ l | no _ ↦ b ∷ with same l a ] ≡ b ∷ (l ++ (a ∷ []))
      go below (yes e) = absurd (nm (Memᴰ.head e))
      go below (no ne) = ap (◌∷◌ b) below

  -- one step of finding the place
  abbrev place_by : {a b : A} → Dec (a ≡ b) → ℕ → ℕ
  place_by d n = elim d [ yes _ ↦ zero | no _ ↦ suc n ]

  -- the place of an element is found in the first list that has it
  pub place_old : (l r : List A) (a : A) → Memᴰ a l → place same a (l ++ r) ≡ place same a l
  place_old [] r a m = elim m [ ]
  place_old (b ∷ l) r a m = go (place_old l r a) (Memᴰ.cases_cons m) (same a b)
    where
      go : (Memᴰ a l → place same a (l ++ r) ≡ place same a l) → (a ≡ b) ⊎ Memᴰ a l → (d : Dec (a ≡ b))
          → place_by d (place same a (l ++ r)) ≡ place_by d (place same a l)
      go below m' (yes e) = refl
      go below (inl e) (no ne) = absurd (ne e)
      go below (inr m') (no ne) = ap suc (below m')

  pub place_new : (l r : List A) (a : A) → (Memᴰ a l → ⊥) → place same a (l ++ (a ∷ r)) ≡ length l
  place_new [] r a nm = go (same a a)
    where
      go : (d : Dec (a ≡ a)) → place_by d (place same a r) ≡ 0
      go (yes e) = refl
      go (no ne) = absurd (ne refl)
  place_new (b ∷ l) r a nm = go (place_new l r a (λ m. nm (Memᴰ.tail m))) (same a b)
    where
      go : place same a (l ++ (a ∷ r)) ≡ length l → (d : Dec (a ≡ b)) → place_by d (place same a (l ++ (a ∷ r))) ≡ suc (length l)
      go below (yes e) = absurd (nm (Memᴰ.head e))
      go below (no ne) = ap suc below

-- the numbers below n, in order
abbrev pub up_to : ℕ → List ℕ
up_to zero = []
up_to (suc n) = up_to n ++ (n ∷ [])

pub length_up_to : (n : ℕ) → length (up_to n) ≡ n
length_up_to zero = refl
length_up_to (suc n) = let h = length_up_to n in rw (length-append (up_to n) (n ∷ [])) (omega arith)

pub has_up_to : (n v : ℕ) → Memᴰ v (up_to n) → v < n
has_up_to zero v m = elim m [ ]
has_up_to (suc n) v m = go (has_up_to n v) (Memᴰ.append_cases (up_to n) m)
  where
    go : (Memᴰ v (up_to n) → v < n) → Memᴰ v (up_to n) ⊎ Memᴰ v (n ∷ []) → v < suc n
    go below (inl m') = let h = below m' in omega arith
    go below (inr m') = let e = Memᴰ.eq_of_singleton m' in omega arith

pub up_to_has : (n v : ℕ) → v < n → Memᴰ v (up_to n)
up_to_has zero v h = absurd (omega arith)
up_to_has (suc n) v h = go (up_to_has n v) (ℕ_discrete v n)
  where
    go : (v < n → Memᴰ v (up_to n)) → Dec (v ≡ n) → Memᴰ v (up_to n ++ (n ∷ []))
    go below (yes e) = Memᴰ.append_right (up_to n) (Memᴰ.head e)
    go below (no ne) = Memᴰ.append_left (n ∷ []) (below (omega arith))

pub place_up_to : (n v : ℕ) → v < n → place ℕ_discrete v (up_to n) ≡ v
place_up_to zero v h = absurd (omega arith)
place_up_to (suc n) v h = go (place_up_to n v) (dec_lt v n)
  where
    go : (v < n → place ℕ_discrete v (up_to n) ≡ v) → Dec (v < n) → place ℕ_discrete v (up_to n ++ (n ∷ [])) ≡ v
    go below (yes l) = place_old ℕ_discrete (up_to n) (n ∷ []) v (up_to_has n v l) ∙ below l
    go below (no nl) =
        let e : n ≡ v = omega arith in
        rw (← e) (place_new ℕ_discrete (up_to n) [] n (λ m. let l = has_up_to n n m in omega arith) ∙ length_up_to n)

-- a variable met before, and the next one
pub with_up_to_old : (n v : ℕ) → v < n → with ℕ_discrete (up_to n) v ≡ up_to n
with_up_to_old n v h = with_old ℕ_discrete (up_to n) v (up_to_has n v h)

pub with_up_to_next : (n : ℕ) → with ℕ_discrete (up_to n) n ≡ up_to (suc n)
with_up_to_next n = with_new ℕ_discrete (up_to n) n (λ m. let l = has_up_to n n m in omega arith)

-- "variables are numbered from 0 by first appearance"
pub own_shape : (t : Term) (n : ℕ) → met [] t ≡ up_to n → shape_of t ≡ t
own_shape t n e = sub_agree t (λ v. var (number t v)) var same ∙ sub_var t
  where
    same : (v : ℕ) → Occ v t → var (number t v) ≡ var v
    same v o = ap var (rw e (place_up_to n v (has_up_to n v (rw e at (met_has t [] v o)))))
