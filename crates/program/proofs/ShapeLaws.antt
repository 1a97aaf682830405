-- Laws of shapes: each atom of the program has its shape under its number, and an instance of an atom is an instance of its shape.
use Prim.Native.Nat.{ℕ, zero, suc}
use mathlib.Core.Path.{◌≡◌, refl, sym, ap, ◌∙◌}
use mathlib.Core.Logic.{◌⊎◌, inl, inr}
use mathlib.Core.List.Memᴰ
use mathlib.Core.List.{List, [], ◌∷◌, map, Memᴰ}
use lib.ListN.{get_or}
use native.Mathlib.Decide.{ℕ_discrete}
use Rattle.terms.specs.Term.{Term, Terms, same_term, var, app, nil, cons, Subst, sub, Occ, Occs}
use Rattle.terms.proofs.Substs.{sub_comp, sub_agree}
use Rattle.program.specs.Program.{Nth, here, there, Clause, Program, bodies}
use Rattle.program.specs.Shapes.{place, with, met, mets, number, shape_of, distinct, shapes, shape_number}

-- what stands at a place of a list is in the list
pub nth_member : {A : Type 0} {l : List A} {n : ℕ} {a : A} → Nth l n a → Memᴰ a l
nth_member here = Memᴰ.head refl
nth_member (there h) = Memᴰ.tail (nth_member h)

-- one element stands at a place
pub nth_same : {A : Type 0} {l : List A} {n : ℕ} {a b : A} → Nth l n a → Nth l n b → a ≡ b
nth_same here here = refl
nth_same (there h) (there h') = nth_same h h'

pub nth_get_d : {A : Type 0} {l : List A} {n : ℕ} {a : A} (d : A) → Nth l n a → get_or l n d ≡ a
nth_get_d d here = refl
nth_get_d d (there h) = nth_get_d d h

module _ {A : Type 0} (same : Discrete A) where
  -- what is in a list stands at its place
  pub place_nth : (a : A) (l : List A) → Memᴰ a l → Nth l (place same a l) a
  place_nth a [] m = elim m [ ]
  place_nth a (b ∷ l) m = at (place_nth a l) (Memᴰ.cases_cons m) (same a b)
    where
      at : (Memᴰ a l → Nth l (place same a l) a) → (a ≡ b) ⊎ Memᴰ a l → (d : Dec (a ≡ b))
          → Nth (b ∷ l) (elim d [ yes _ ↦ zero | no _ ↦ suc (place same a l) ]) a
      at below m' (yes e) = rw e here
      at below (inl e) (no ne) = absurd (ne e)
      at below (inr m') (no ne) = there (below m')

  -- a list keeps what it has when one more is put behind it
  pub with_keeps : (l : List A) (a b : A) → Memᴰ b l → Memᴰ b (with same l a)
  with_keeps [] a b m = elim m [ ]
  with_keeps (c ∷ l) a b m = at (with_keeps l a b) (Memᴰ.cases_cons m) (same a c)
    where
      at : (Memᴰ b l → Memᴰ b (with same l a)) → (b ≡ c) ⊎ Memᴰ b l → (d : Dec (a ≡ c))
          → Memᴰ b (elim d [ yes _ ↦ c ∷ l | no _ ↦ c ∷ with same l a ])
      at below (inl e) (yes _) = Memᴰ.head e
      at below (inl e) (no _) = Memᴰ.head e
      at below (inr m') (yes _) = Memᴰ.tail m'
      at below (inr m') (no _) = Memᴰ.tail (below m')

  -- and has that one too
  pub with_has : (l : List A) (a : A) → Memᴰ a (with same l a)
  with_has [] a = Memᴰ.head refl
  with_has (c ∷ l) a = at (with_has l a) (same a c)
    where
      at : Memᴰ a (with same l a) → (d : Dec (a ≡ c)) → Memᴰ a (elim d [ yes _ ↦ c ∷ l | no _ ↦ c ∷ with same l a ])
      at below (yes e) = Memᴰ.head e
      at below (no _) = Memᴰ.tail below

  -- and nothing but that one is new
  pub has_with : (l : List A) (a b : A) → Memᴰ b (with same l a) → Memᴰ b l ⊎ (b ≡ a)
  has_with [] a b m = first (Memᴰ.cases_cons m)
    where
      first : (b ≡ a) ⊎ Memᴰ b [] → Memᴰ b [] ⊎ (b ≡ a)
      first (inl e) = inr e
      first (inr m') = inl m'
  has_with (c ∷ l) a b m = go (has_with l a b) (same a c) m
    where
      keep : Memᴰ b l ⊎ (b ≡ a) → Memᴰ b (c ∷ l) ⊎ (b ≡ a)
      keep (inl m') = inl (Memᴰ.tail m')
      keep (inr e) = inr e

      split : (Memᴰ b (with same l a) → Memᴰ b l ⊎ (b ≡ a)) → (b ≡ c) ⊎ Memᴰ b (with same l a) → Memᴰ b (c ∷ l) ⊎ (b ≡ a)
      split below (inl e) = inl (Memᴰ.head e)
      split below (inr m') = keep (below m')

      go : (Memᴰ b (with same l a) → Memᴰ b l ⊎ (b ≡ a)) → (d : Dec (a ≡ c)) → Memᴰ b (elim d as (λ _. List A) [ yes _ ↦ c ∷ l | no _ ↦ c ∷ with same l a ])
          → Memᴰ b (c ∷ l) ⊎ (b ≡ a)
      go below (yes _) m' = inl m'
      go below (no _) m' = split below (Memᴰ.cases_cons m')

  -- whether a list has an element
  unfoldable pub member_decided : (a : A) (l : List A) → Dec (Memᴰ a l)
  member_decided a [] = no (λ m. elim m [ ])
  member_decided a (b ∷ l) = go (same a b) (member_decided a l)
    where
      neither : (a ≡ b → ⊥) → (Memᴰ a l → ⊥) → (a ≡ b) ⊎ Memᴰ a l → ⊥
      neither ne nm (inl e) = ne e
      neither ne nm (inr m) = nm m

      go : Dec (a ≡ b) → Dec (Memᴰ a l) → Dec (Memᴰ a (b ∷ l))
      go (yes e) d = yes (Memᴰ.head e)
      go (no ne) (yes m) = yes (Memᴰ.tail m)
      go (no ne) (no nm) = no (λ m. neither ne nm (Memᴰ.cases_cons m))

-- a variable met before is still there
mutual
  pub met_keeps : (t : Term) (seen : List ℕ) (v : ℕ) → Memᴰ v seen → Memᴰ v (met seen t)
  met_keeps (var x) seen v m = with_keeps ℕ_discrete seen x v m
  met_keeps (app f ts) seen v m = mets_keeps ts seen v m

  pub mets_keeps : (ts : Terms) (seen : List ℕ) (v : ℕ) → Memᴰ v seen → Memᴰ v (mets seen ts)
  mets_keeps nil seen v m = m
  mets_keeps (cons t ts) seen v m = mets_keeps ts (met seen t) v (met_keeps t seen v m)

-- a variable that occurs is met
mutual
  pub met_has : (t : Term) (seen : List ℕ) (v : ℕ) → Occ v t → Memᴰ v (met seen t)
  met_has (var x) seen v o = rw o (with_has ℕ_discrete seen x)
  met_has (app f ts) seen v o = mets_has ts seen v o

  pub mets_has : (ts : Terms) (seen : List ℕ) (v : ℕ) → Occs v ts → Memᴰ v (mets seen ts)
  mets_has nil seen v o = absurd o
  mets_has (cons t ts) seen v (inl o) = mets_keeps ts (met seen t) v (met_has t seen v o)
  mets_has (cons t ts) seen v (inr o) = mets_has ts (met seen t) v o

-- and a variable that is met occurs, or was met before
mutual
  pub has_met : (t : Term) (seen : List ℕ) (v : ℕ) → Memᴰ v (met seen t) → Memᴰ v seen ⊎ Occ v t
  has_met (var x) seen v m = has_with ℕ_discrete seen x v m
  has_met (app f ts) seen v m = has_mets ts seen v m

  pub has_mets : (ts : Terms) (seen : List ℕ) (v : ℕ) → Memᴰ v (mets seen ts) → Memᴰ v seen ⊎ Occs v ts
  has_mets nil seen v m = inl m
  has_mets (cons t ts) seen v m = at (has_mets ts (met seen t) v m) (λ m'. has_met t seen v m')
    where
      other : Memᴰ v seen ⊎ Occ v t → Memᴰ v seen ⊎ (Occ v t ⊎ Occs v ts)
      other (inl m') = inl m'
      other (inr o) = inr (inl o)

      at : Memᴰ v (met seen t) ⊎ Occs v ts → (Memᴰ v (met seen t) → Memᴰ v seen ⊎ Occ v t) → Memᴰ v seen ⊎ (Occ v t ⊎ Occs v ts)
      at (inl m') before = other (before m')
      at (inr o) before = inr (inr o)

pub met_occurs : (t : Term) (x : ℕ) → Memᴰ x (met [] t) → Occ x t
met_occurs t x m = by (has_met t [] x m)
  where
    by : Memᴰ x [] ⊎ Occ x t → Occ x t
    by (inl q) = elim q [ ]
    by (inr o) = o

-- a term for each variable of the atom, by the shape's numbers
abbrev pub numbered : Term → Subst → Subst
numbered A σ n = σ (get_or (met [] A) n 0)

pub numbered_number : (A : Term) (σ : Subst) (v : ℕ) → Occ v A → numbered A σ (number A v) ≡ σ v
numbered_number A σ v o = ap σ (nth_get_d 0 (place_nth ℕ_discrete v (met [] A) (met_has A [] v o)))

-- an instance of an atom is an instance of its shape
pub shape_instance : (A : Term) (σ : Subst) → sub A σ ≡ sub (shape_of A) (numbered A σ)
shape_instance A σ = sym (sub_comp A (λ v. var (number A v)) (numbered A σ) ∙ sub_agree A _ σ (numbered_number A σ))

-- each of the terms is among the distinct ones
pub distinct_keeps : (ts seen : List Term) (t : Term) → Memᴰ t seen → Memᴰ t (distinct seen ts)
distinct_keeps [] seen t m = m
distinct_keeps (u ∷ ts) seen t m = distinct_keeps ts (with same_term seen u) t (with_keeps same_term seen u t m)

pub distinct_has : (ts seen : List Term) (t : Term) → Memᴰ t ts → Memᴰ t (distinct seen ts)
distinct_has [] seen t m = elim m [ ]
distinct_has (u ∷ ts) seen t m = at (distinct_has ts (with same_term seen u) t) (Memᴰ.cases_cons m)
  where
    at : (Memᴰ t ts → Memᴰ t (distinct seen (u ∷ ts))) → (t ≡ u) ⊎ Memᴰ t ts → Memᴰ t (distinct seen (u ∷ ts))
    at below (inl e) = distinct_keeps ts (with same_term seen u) t (rw e (with_has same_term seen u))
    at below (inr m') = below m'

pub bodies_has : (cs : List Clause) {k i : ℕ} {c : Clause} {A : Term} → Nth cs k c → Nth c.body i A → Memᴰ A (bodies cs)
bodies_has [] {k = k} {i = i} {c = c} {A = A} x'' a = elim x'' [ ]
bodies_has (c ∷ cs) here a = Memᴰ.append_left (bodies cs) (nth_member a)
bodies_has (d ∷ cs) (there h) a = Memᴰ.append_right d.body (bodies_has cs h a)

-- a body atom has its shape under its number
pub body_shape_law : (p : Program) {k i : ℕ} {c : Clause} {A : Term} → Nth p.clauses k c → Nth c.body i A → Nth (shapes p) (shape_number p A) (shape_of A)
body_shape_law p {A = A} h a = place_nth same_term (shape_of A) (shapes p)
    (distinct_has (shape_of p.goal ∷ map shape_of (bodies p.clauses)) [] (shape_of A)
    (Memᴰ.tail (Memᴰ.map shape_of (bodies_has p.clauses h a))))

-- "Shape 0 is the goal's"
pub distinct_first : (ts seen : List Term) (t : Term) → Nth seen 0 t → Nth (distinct seen ts) 0 t
distinct_first [] seen t h = h
distinct_first (u ∷ ts) seen t h = distinct_first ts (with same_term seen u) t (at seen h)
  where
    behind : (b : Term) (l : List Term) (d : Dec (u ≡ b)) → Nth (elim d as (λ _. List Term) [ yes _ ↦ b ∷ l | no _ ↦ b ∷ with same_term l u ]) 0 b
    behind b l (yes _) = here
    behind b l (no _) = here

    at : (l : List Term) → Nth l 0 t → Nth (with same_term l u) 0 t
    at [] x'' = elim x'' [ ]
    at (b ∷ l) here = behind b l (same_term u b)

pub goal_shape : (p : Program) → Nth (shapes p) 0 (shape_of p.goal)
goal_shape p = distinct_first (map shape_of (bodies p.clauses)) (shape_of p.goal ∷ []) (shape_of p.goal) here
