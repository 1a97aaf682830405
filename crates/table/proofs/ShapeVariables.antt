-- The variables of a program within the limits: those of its atoms, clauses and shapes are at most 15, and its shapes and body atoms are few.
use Prim.Native.Nat.{ℕ, zero, suc, ◌+◌, ◌*◌, ◌≤◌, ◌<◌}
use native.Mathlib.Omega.{arith}
use native.Mathlib.Decide.{ℕ_discrete}
use mathlib.Core.Path.{◌≡◌, sym}
use mathlib.Core.Logic.{◌⊎◌, inl, inr, ⊎_elim}
use mathlib.Core.List.Memᴰ
use mathlib.Core.List.{List, [], ◌∷◌, map, Memᴰ}
use lib.ListN.{length, take, length-append, length-map}
use Rattle.terms.specs.Term.{Term, Terms, same_term, var, app, nil, cons, Occ}
use Rattle.terms.specs.Cells.{variables, Atom}
use Rattle.terms.proofs.Substs.{occ_sub}
use Rattle.terms.proofs.RunVariables.{atom_variables}
use Rattle.program.specs.Limits.{max_body}
use Rattle.program.specs.Program.{Nth, Clause, Program, bodies}
use Rattle.program.specs.Shapes.{with, met, mets, number, shape_of, distinct, shapes, In}
use Rattle.program.specs.Within.{Each, more, WithinClause, WithinLimits}
use Rattle.program.specs.Lists.{Distinct}
use Rattle.program.proofs.ShapeLaws.{nth_member, place_nth, met_has, has_with, met_occurs}
use Rattle.program.proofs.OwnShape.{up_to, length_up_to, up_to_has}
use Rattle.program.proofs.Nths.{nth_below}
use Rattle.table.specs.Keys.{Few}
use Rattle.table.proofs.Lists.{has_map}
use Rattle.table.proofs.Distinct.{distinct_length}

pub each_member : {A : Type 0} {P : A → Type 0} {l : List A} {a : A} → Each P l → Memᴰ a l → P a
each_member {A = A} {P = P} {a = a} Rattle.program.specs.Within.none m = elim m [ ]
each_member {P = P} {a = a} (more h hs) m = ⊎_elim (λ (e : _). rw e h) (each_member hs) (Memᴰ.cases_cons m)

-- "v is at most 15", in the atoms of a clause
pub atoms_variables : {ps fs : List ℕ} (ts : List Term) → Each (Atom ps fs) ts → (v : ℕ) → In v ts → v < variables
atoms_variables {ps = ps} {fs = fs} [] _ v x3 = elim x3 [ ]
atoms_variables (t ∷ ts) (more a as') v (inl o) = atom_variables a v o
atoms_variables (t ∷ ts) (more a as') v (inr o) = atoms_variables ts as' v o

pub in_take : (i : ℕ) (ts : List Term) (v : ℕ) → In v (take i ts) → In v ts
in_take zero ts v o = absurd o
in_take (suc i) [] v o = absurd o
in_take (suc i) (t ∷ ts) v (inl o) = inl o
in_take (suc i) (t ∷ ts) v (inr o) = inr (in_take i ts v o)

-- met variables are each met once
pub with_distinct : {A : Type 0} (same : Discrete A) (l : List A) (a : A) → Distinct l → Distinct (with same l a)
with_distinct same [] a d = (Memᴰ.not-nil, tt)
with_distinct {A} same (b ∷ l) a (nb, d) = at (same a b) (with_distinct same l a d)
  where
    at : (e : Dec (a ≡ b)) → Distinct (with same l a) → Distinct {A = A} (elim e as (λ _. List A) [ yes _ ↦ b ∷ l | no _ ↦ b ∷ with same l a ])
    at (yes _) d' = (nb, d)
    at (no ne) d' = (λ m. ⊎_elim nb (λ (e : b ≡ a). ne (sym e)) (has_with same l a b m), d')

mutual
  pub met_distinct : (t : Term) (seen : List ℕ) → Distinct seen → Distinct (met seen t)
  met_distinct (var v) seen d = with_distinct ℕ_discrete seen v d
  met_distinct (app f ts) seen d = mets_distinct ts seen d

  pub mets_distinct : (ts : Terms) (seen : List ℕ) → Distinct seen → Distinct (mets seen ts)
  mets_distinct nil seen d = d
  mets_distinct (cons t ts) seen d = mets_distinct ts (met seen t) (met_distinct t seen d)

-- a shape's variables are below a bound of the atom's
pub number_below : (t : Term) (n : ℕ) → ((v : ℕ) → Occ v t → v < n) → (v : ℕ) → Occ v t → number t v < n
number_below t n h v o =
    let few = distinct_length (met [] t) (up_to n) (met_distinct t [] tt) (λ w m. up_to_has n w (h w (met_occurs t w m))) in
    omega (arith, nth_below (place_nth ℕ_discrete v (met [] t) (met_has t [] v o)), length_up_to n)

pub shape_below : (t : Term) (n : ℕ) → ((v : ℕ) → Occ v t → v < n) → (v : ℕ) → Occ v (shape_of t) → v < n
shape_below t n h v o = let (w, o', e) = occ_sub t (λ x. var (number t x)) v o in rw e (number_below t n h w o')

module _ (p : Program) (within : WithinLimits p) where
  -- the atoms of the program, and what its shapes are shapes of
  abbrev pub AtomOf : Term → Type 0
  AtomOf = Atom p.predicates p.functions

  pub body_atom : (cs : List Clause) → Each (WithinClause p.predicates p.functions) cs → (A : Term) → Memᴰ A (bodies cs) → AtomOf A
  body_atom [] w A m = absurd (Memᴰ.not-nil m)
  body_atom (c ∷ cs) (more w ws) A m = ⊎_elim (each_member w.body_atoms) (body_atom cs ws A) (Memᴰ.append_cases c.body m)

  has_distinct : (ts seen : List Term) (t : Term) → Memᴰ t (distinct seen ts) → Memᴰ t seen ⊎ Memᴰ t ts
  has_distinct [] seen t m = inl m
  has_distinct (u ∷ ts) seen t m = at (has_distinct ts (with same_term seen u) t m)
    where
      last : Memᴰ t seen ⊎ (t ≡ u) → Memᴰ t seen ⊎ Memᴰ t (u ∷ ts)
      last (inl m') = inl m'
      last (inr e) = inr (Memᴰ.head e)

      at : Memᴰ t (with same_term seen u) ⊎ Memᴰ t ts → Memᴰ t seen ⊎ Memᴰ t (u ∷ ts)
      at (inl m') = last (has_with same_term seen u t m')
      at (inr m') = inr (Memᴰ.tail m')

  -- each shape is the shape of an atom
  pub shape_atom : {s : ℕ} {S : Term} → Nth (shapes p) s S → (A : Term) × (S ≡ shape_of A) × AtomOf A
  shape_atom {S = S} hs = at (has_distinct (shape_of p.goal ∷ map shape_of (bodies p.clauses)) [] S (nth_member hs))
    where
      which : (S ≡ shape_of p.goal) ⊎ Memᴰ S (map shape_of (bodies p.clauses)) → (A : Term) × (S ≡ shape_of A) × AtomOf A
      which (inl e) = (p.goal, e, within.goal_atom)
      which (inr m) = let (A, mA, e) = has_map shape_of (bodies p.clauses) m in (A, e, body_atom p.clauses within.clauses_within A mA)

      at : Memᴰ S [] ⊎ Memᴰ S (shape_of p.goal ∷ map shape_of (bodies p.clauses)) → (A : Term) × (S ≡ shape_of A) × AtomOf A
      at (inl m) = absurd (Memᴰ.not-nil m)
      at (inr m) = which (Memᴰ.cases_cons m)

  -- so its variables are at most 15
  pub shape_variables : {s : ℕ} {S : Term} → Nth (shapes p) s S → (v : ℕ) → Occ v S → v < variables
  shape_variables hs v o =
      let (A, e, a) = shape_atom hs in shape_below A variables (atom_variables a) v (rw e at o)

  -- at most 64 clauses of 16 body atoms each, and a shape for each of these and for the goal
  pub bodies_length : (cs : List Clause) → Each (WithinClause p.predicates p.functions) cs → length (bodies cs) ≤ max_body * length cs
  bodies_length [] w = omega arith
  bodies_length (c ∷ cs) (more w ws) = rw length-append (let l = bodies_length cs ws in omega (arith, w.body))

  with_length : (l : List Term) (t : Term) → length (with same_term l t) ≤ suc (length l)
  with_length [] t = omega arith
  with_length (u ∷ l) t = at (same_term t u) (with_length l t)
    where
      at : (e : Dec (t ≡ u)) → length (with same_term l t) ≤ suc (length l)
          → length {A = Term} (elim e as (λ _. List Term) [ yes _ ↦ u ∷ l | no _ ↦ u ∷ with same_term l t ]) ≤ suc (length (u ∷ l))
      at (yes _) h = omega arith
      at (no _) h = omega arith

  distinct_few : (ts seen : List Term) → length (distinct seen ts) ≤ length seen + length ts
  distinct_few [] seen = omega arith
  distinct_few (t ∷ ts) seen = omega (arith, distinct_few ts (with same_term seen t), with_length seen t)

  pub within_few : Few p
  within_few =
      let l = bodies_length p.clauses within.clauses_within in
      let d = distinct_few (shape_of p.goal ∷ map shape_of (bodies p.clauses)) [] in
      record {
        shapes_few = omega (arith, l, d, within.clauses_most, length-map (bodies p.clauses) shape_of);
        bodies_few = omega (arith, l, within.clauses_most);
      }
