-- Shapes are distinct, complete and in order: each distinct shape of the goal and of the body atoms is numbered once, in program order.
use Prim.Native.Nat.{ℕ, zero, suc}
use native.Mathlib.Omega.{arith}
use mathlib.Core.Path.{◌≡◌, refl, sym, ap, ◌∙◌}
use mathlib.Core.Logic.{◌⊎◌, inl, inr}
use mathlib.Core.List.{List, [], ◌∷◌, ◌++◌, map, append_assoc, append-nil, map-append}
use Rattle.terms.specs.Term.{Term, same_term}
use Rattle.program.specs.Lists.{Distinct}
use Rattle.program.specs.Program.{Nth, here, there, Program, bodies}
use Rattle.program.specs.Shapes.{with, shape_of, distinct, shapes, shape_number}
use Rattle.program.proofs.Once.{Somewhere, nth_first, nth_later, nth_map, map_nth, with_cases, with_distinct, with_stands, with_keeps, with_sound, place_stands}
use Rattle.program.proofs.Nths.{nth_below}

-- what was seen keeps its number
pub distinct_keeps : (ts seen : List Term) (i : ℕ) (s : Term) → Nth seen i s → Nth (distinct seen ts) i s
distinct_keeps [] seen i s n = n
distinct_keeps (t ∷ ts) seen i s n = distinct_keeps ts (with same_term seen t) i s (with_keeps same_term seen t s i n)

pub distinct_distinct : (ts seen : List Term) → Distinct seen → Distinct (distinct seen ts)
distinct_distinct [] seen d = d
distinct_distinct (t ∷ ts) seen d = distinct_distinct ts (with same_term seen t) (with_distinct same_term seen t d)

pub distinct_complete : (ts seen : List Term) (j : ℕ) (t : Term) → Nth ts j t → Somewhere (distinct seen ts) t
distinct_complete [] seen j t n = elim n [ ]
distinct_complete (x ∷ ts) seen zero t n =
    let w = with_stands same_term seen x in
    (w.0, rw (nth_first n) (distinct_keeps ts (with same_term seen x) w.0 x w.1))
distinct_complete (x ∷ ts) seen (suc j) t n = distinct_complete ts (with same_term seen x) j t (nth_later n)

pub distinct_sound : (ts seen : List Term) (i : ℕ) (s : Term) → Nth (distinct seen ts) i s → Somewhere seen s ⊎ Somewhere ts s
distinct_sound [] seen i s n = inl (i, n)
distinct_sound (t ∷ ts) seen i s n = by (distinct_sound ts (with same_term seen t) i s n)
  where
    one : Somewhere seen s ⊎ (s ≡ t) → Somewhere seen s ⊎ Somewhere (t ∷ ts) s
    one (inl w) = inl w
    one (inr e) = inr (zero, rw e here)

    by : Somewhere (with same_term seen t) s ⊎ Somewhere ts s → Somewhere seen s ⊎ Somewhere (t ∷ ts) s
    by (inl w) = one (with_sound same_term seen t s w.0 w.1)
    by (inr w) = inr (suc w.0, there w.1)

pub distinct_append : (xs ys seen : List Term) → distinct seen (xs ++ ys) ≡ distinct (distinct seen xs) ys
distinct_append [] ys seen = refl
distinct_append (x ∷ xs) ys seen = distinct_append xs ys (with same_term seen x)

pub distinct_extends : (ts seen : List Term) → (new : List Term) × (distinct seen ts ≡ seen ++ new)
distinct_extends [] seen = ([], sym (append-nil seen))
distinct_extends (t ∷ ts) seen = by (with_cases same_term seen t) (distinct_extends ts (with same_term seen t))
  where
    by : ((with same_term seen t ≡ seen) × Somewhere seen t) ⊎ ((with same_term seen t ≡ seen ++ t ∷ []) × (Somewhere seen t → ⊥))
        → (new : List Term) × (distinct (with same_term seen t) ts ≡ with same_term seen t ++ new)
        → (new : List Term) × (distinct seen (t ∷ ts) ≡ seen ++ new)
    by (inl w) r = (r.0, r.1 ∙ ap (λ (l : List Term). l ++ r.0) w.0)
    by (inr w) r = (t ∷ r.0, r.1 ∙ ap (λ (l : List Term). l ++ r.0) w.0 ∙ append_assoc seen (t ∷ []) r.0)

module _ (p : Program) where
  -- "each distinct shape numbered once"
  pub shapes_distinct : Distinct (shapes p)
  shapes_distinct = distinct_distinct (shape_of p.goal ∷ map shape_of (bodies p.clauses)) [] tt

  -- "Shape 0 is the goal's"
  pub shapes_goal : Nth (shapes p) zero (shape_of p.goal)
  shapes_goal = distinct_keeps (map shape_of (bodies p.clauses)) (shape_of p.goal ∷ []) zero (shape_of p.goal) here

  -- every body atom's shape has the atom's number
  pub shapes_body : (j : ℕ) (t : Term) → Nth (bodies p.clauses) j t → Nth (shapes p) (shape_number p t) (shape_of t)
  shapes_body j t n =
      let s = distinct_complete (shape_of p.goal ∷ map shape_of (bodies p.clauses)) [] (suc j) (shape_of t) (there (nth_map shape_of n)) in
      place_stands same_term (shape_of t) (shapes p) s.0 s.1

  -- every shape is the goal's or a body atom's
  pub shapes_sound : (i : ℕ) (s : Term) → Nth (shapes p) i s → (s ≡ shape_of p.goal) ⊎ ((t : Term) × (j : ℕ) × Nth (bodies p.clauses) j t × (s ≡ shape_of t))
  shapes_sound i s n = by (distinct_sound (shape_of p.goal ∷ map shape_of (bodies p.clauses)) [] i s n)
    where
      at : (j : ℕ) → Nth (shape_of p.goal ∷ map shape_of (bodies p.clauses)) j s
          → (s ≡ shape_of p.goal) ⊎ ((t : Term) × (k : ℕ) × Nth (bodies p.clauses) k t × (s ≡ shape_of t))
      at zero n = inl (nth_first n)
      at (suc j) n = let r = map_nth shape_of (bodies p.clauses) j s (nth_later n) in inr (r.0, j, r.1, r.2)

      by : Somewhere [] s ⊎ Somewhere (shape_of p.goal ∷ map shape_of (bodies p.clauses)) s
          → (s ≡ shape_of p.goal) ⊎ ((t : Term) × (k : ℕ) × Nth (bodies p.clauses) k t × (s ≡ shape_of t))
      by (inl w) = let h = nth_below w.1 in absurd (omega arith)
      by (inr w) = at w.0 w.1

  -- "the body atoms follow in program order": the shapes of the first atoms are the first shapes
  pub shapes_in_order : (first last : List Term) → p.goal ∷ bodies p.clauses ≡ first ++ last
      → (new : List Term) × (shapes p ≡ distinct [] (map shape_of first) ++ new)
  shapes_in_order first last e =
      let r = distinct_extends (map shape_of last) (distinct [] (map shape_of first)) in
      (r.0, ap (λ (l : List Term). distinct [] (map shape_of l)) e ∙ ap (distinct []) (map-append shape_of first last) ∙ distinct_append (map shape_of first) (map shape_of last) [] ∙ r.1)
