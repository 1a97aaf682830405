-- The shapes of the goal and of the body atoms in program order: one atom more, and all of them.
use Prim.Native.Nat.{ℕ, zero, suc, ◌+◌, ◌≤◌, ◌<◌}
use native.Mathlib.Numerals.{add-one}
use native.Mathlib.Omega.{arith}
use native.Mathlib.Decide.{ℕ_discrete, dec_lt}
use mathlib.Core.Path.{◌≡◌, refl, sym, ap, ◌∙◌}
use mathlib.Core.List.{List, [], ◌∷◌, ◌++◌, map, map-append, append_assoc, append-nil, Memᴰ}
use borrow.Rule.Slice.PartMut.{put_mid}
use lib.ListN.{length, get_or, take, drop, replicate, length-append, length-drop, length-replicate, get_or-replicate, take-append-drop}
use lib.Seq.{take-length}
use Rattle.std.proofs.lemmas.List.{length-take-le, get_or_append_left, get_or-append_right, get_or-take}
use Rattle.terms.specs.Term.{Term, same_term}
use Rattle.terms.specs.Cells.{enc}
use Rattle.program.specs.Limits.{max_declared}
use Rattle.program.specs.Program.{Nth, Clause, Program, bodies}
use Rattle.program.specs.Within.{encode_atoms, encode_clauses}
use Rattle.program.specs.Shapes.{place, with, shape_of, distinct, shapes, shape_number}
use Rattle.program.proofs.ShapeLaws.{place_nth, with_has}
use Rattle.program.proofs.OwnShape.{with_old, with_new, place_old, place_new}
use Rattle.program.proofs.ShapeOrder.{distinct_append, distinct_extends}
use Rattle.program.proofs.Nths.{nth_below}
use Rattle.directory.specs.Layout.{predicate_shape, dir_words}
use Rattle.shaping.specs.Named.{Cleared, shapes_up_to}
use Rattle.directory.proofs.Cuts.{nth_take}
use Rattle.shaping.proofs.ShapeSearch.{place_missing, member_by_place}

-- the links of the predicates are filled with 0
pub filled_cleared : (dir links : List ℕ) → length dir ≡ dir_words → links ≡ replicate max_declared 0 → Cleared dir (put_mid predicate_shape max_declared dir links) max_declared
filled_cleared dir links whole filled =
    let front : length (take predicate_shape dir) ≡ predicate_shape = length-take-le predicate_shape dir (omega arith) in
    let many : length links ≡ max_declared = ap length filled ∙ length-replicate {A = ℕ} max_declared 0 in
    let behind = drop max_declared (drop predicate_shape dir) in
    record {
      size =
          length-append (take predicate_shape dir) (links ++ behind)
          ∙ omega (arith, front, many, length-append links behind, length-drop max_declared (drop predicate_shape dir), length-drop predicate_shape dir);
      none = λ x l.
          get_or-append_right (take predicate_shape dir) (links ++ behind) predicate_shape (predicate_shape + x) 0 front (omega arith)
          ∙ ap (λ (n : ℕ). get_or (links ++ behind) n 0) (omega arith) ∙ get_or_append_left links behind 0 x (omega arith)
          ∙ rw filled (get_or-replicate max_declared x 0 0 l);
      kept = λ x l. get_or_append_left (take predicate_shape dir) (links ++ behind) 0 x (omega arith) ∙ get_or-take predicate_shape dir x 0 l;
    }

-- the place of an element in the list with it
pub place_with : (l : List Term) (t : Term) → place same_term t (with same_term l t) ≡ place same_term t l
place_with l t = by (dec_lt (place same_term t l) (length l))
  where
    by : Dec (place same_term t l < length l) → place same_term t (with same_term l t) ≡ place same_term t l
    by (yes h) = rw (with_old same_term l t (member_by_place same_term l t h))
    by (no h) =
        let nm : Memᴰ t l → ⊥ = λ m. h (nth_below (place_nth same_term t l m)) in
        rw (with_new same_term l t nm, place_missing same_term l t nm) (place_new same_term l [] t nm)

-- how many there are with it
pub length_with_new : (l : List Term) (t : Term) → place same_term t l ≡ length l → length (with same_term l t) ≡ length l + 1
length_with_new l t e =
    let nm : Memᴰ t l → ⊥ = λ m. let h = nth_below (place_nth same_term t l m) in absurd (omega arith) in
    rw (with_new same_term l t nm) (length-append l (t ∷ []))

pub place_most : (l : List Term) (t : Term) → place same_term t l ≤ length l
place_most [] t = omega arith
place_most (b ∷ l) t = by (place_most l t) (same_term t b)
  where
    by : place same_term t l ≤ length l → (d : Dec (t ≡ b)) → elim d as (λ _. ℕ) [ yes _ ↦ zero | no _ ↦ suc (place same_term t l) ] ≤ suc (length l)
    by below (yes e) = omega arith
    by below (no n) = omega arith

pub length_with_old : (l : List Term) (t : Term) → (place same_term t l ≡ length l → ⊥) → length (with same_term l t) ≡ length l
length_with_old l t ne =
    let m = place_most l t in
    rw (with_old same_term l t (member_by_place same_term l t (omega arith)))

pub length_with_most : (l : List Term) (t : Term) → length (with same_term l t) ≤ length l + 1
length_with_most l t = by (ℕ_discrete (place same_term t l) (length l))
  where
    by : Dec (place same_term t l ≡ length l) → length (with same_term l t) ≤ length l + 1
    by (yes e) = let q = length_with_new l t e in omega arith
    by (no n) = let q = length_with_old l t n in omega arith

module _ (p : Program) where
  -- one atom more
  pub shapes_next : {j : ℕ} {A : Term} → Nth (bodies p.clauses) j A → shapes_up_to p (j + 1) ≡ with same_term (shapes_up_to p j) (shape_of A)
  shapes_next {j} {A} h =
      ap (λ (n : ℕ). shapes_up_to p n) (add-one j)
      ∙ ap (λ (ts : List Term). distinct (shape_of p.goal ∷ []) (map shape_of ts)) (nth_take h)
      ∙ ap (distinct (shape_of p.goal ∷ [])) (map-append shape_of (take j (bodies p.clauses)) (A ∷ []))
      ∙ distinct_append (map shape_of (take j (bodies p.clauses))) (shape_of A ∷ []) (shape_of p.goal ∷ [])

  -- all of them
  pub shapes_all : (j : ℕ) → j ≡ length (bodies p.clauses) → shapes_up_to p j ≡ shapes p
  shapes_all j e = rw e (ap (λ (ts : List Term). distinct (shape_of p.goal ∷ []) (map shape_of ts)) (take-length (bodies p.clauses)))

  shapes_more : (j : ℕ) → (more : List Term) × (shapes p ≡ shapes_up_to p j ++ more)
  shapes_more j =
      let ts = bodies p.clauses in
      let (more, e) = distinct_extends (map shape_of (drop j ts)) (shapes_up_to p j) in (
        more,
        ap (λ (us : List Term). distinct (shape_of p.goal ∷ []) (map shape_of us)) (sym (take-append-drop j ts))
            ∙ ap (distinct (shape_of p.goal ∷ [])) (map-append shape_of (take j ts) (drop j ts))
            ∙ distinct_append (map shape_of (take j ts)) (map shape_of (drop j ts)) (shape_of p.goal ∷ []) ∙ e,
      )

  -- a body atom's shape has among all the number that it has among those up to it
  pub number_stays : {j : ℕ} {A : Term} → Nth (bodies p.clauses) j A → place same_term (shape_of A) (shapes_up_to p j) ≡ shape_number p A
  number_stays {j} {A} h =
      let (more, e) = shapes_more (j + 1) in
      sym (place_with (shapes_up_to p j) (shape_of A))
      ∙ sym (place_old same_term (with same_term (shapes_up_to p j) (shape_of A)) more (shape_of A) (with_has same_term (shapes_up_to p j) (shape_of A)))
      ∙ ap (λ (l : List Term). place same_term (shape_of A) (l ++ more)) (sym (shapes_next h))
      ∙ ap (place same_term (shape_of A)) (sym e)

encode_append : (l m : List Term) → encode_atoms (l ++ m) ≡ encode_atoms l ++ encode_atoms m
encode_append [] m = refl
encode_append (t ∷ l) m = ap (λ (ws : List ℕ). enc t ++ ws) (encode_append l m) ∙ sym (append_assoc (enc t) (encode_atoms l) (encode_atoms m))

-- the cells of one atom more
pub atoms_next : {ts : List Term} {j : ℕ} {A : Term} → Nth ts j A → length (encode_atoms (take (j + 1) ts)) ≡ length (encode_atoms (take j ts)) + length (enc A)
atoms_next {ts} {j} {A} h =
    ap (λ (n : ℕ). length (encode_atoms (take n ts))) (add-one j)
    ∙ ap (λ (us : List Term). length (encode_atoms us)) (nth_take h)
    ∙ ap length (encode_append (take j ts) (A ∷ []))
    ∙ length-append (encode_atoms (take j ts)) (enc A ++ [])
    ∙ ap (λ (ws : List ℕ). length (encode_atoms (take j ts)) + length ws) (append-nil (enc A))

pub atoms_some : (ts : List Term) (j : ℕ) → length (encode_atoms (take j ts)) ≤ length (encode_atoms ts)
atoms_some ts zero = omega arith
atoms_some [] (suc j) = omega arith
atoms_some (t ∷ ts) (suc j) =
    let h = atoms_some ts j in omega (arith, length-append (enc t) (encode_atoms (take j ts)), length-append (enc t) (encode_atoms ts))

-- the body atoms' cells are among the clauses' words
pub bodies_words : (cs : List Clause) → length (encode_atoms (bodies cs)) ≤ length (encode_clauses cs)
bodies_words [] = omega arith
bodies_words (c ∷ cs) =
    let h = bodies_words cs in
    let e = ap length (encode_append c.body (bodies cs)) in
    omega (
      arith,
      length-append (encode_atoms c.body) (encode_atoms (bodies cs)),
      length-append (enc c.head) (encode_atoms c.body ++ encode_clauses cs),
      length-append (encode_atoms c.body) (encode_clauses cs),
    )
