-- Rows as numbers: a row is read back from its key, so no two rows have one key, and keys stand in the order of the rows' words.
use Prim.Native.Nat.{ℕ, zero, suc, ◌+◌, ◌-◌, ◌*◌, ◌/◌, ◌%◌, ◌<◌}
use native.Mathlib.Omega.{arith}
use native.Mathlib.Decide.{ℕ_discrete, dec_lt}
use mathlib.Core.Path.{◌≡◌, refl, sym, ap, subst, ◌∙◌}
use mathlib.Core.Logic.{◌⊎◌, inl, inr, ◌↔◌}
use mathlib.Core.List.{List, [], ◌∷◌}
use lib.ListN.{length, take, length-append}
use borrow.Author.Tests.{lt-ltb, le-ltb}
use Rattle.terms.specs.Term.{Term}
use Rattle.program.specs.Program.{Nth, here, there, Clause, Program, bodies}
use Rattle.program.specs.Limits.{masks}
use Rattle.program.proofs.Nths.{nth_below, below_nth, nth_left, nth_right}
use Rattle.table.specs.Rules.{Row, call, cont, solution}
use Rattle.table.specs.Table.{row_words, mask, Entry, entry_words}
use Rattle.table.specs.Analysis.{Before}
use Rattle.table.specs.Keys.{first_cont, first_solution, body_index, slot_of, row_key, clause_at, place_at, row_at, row_of, Few, Regular, regular_call, regular_cont, regular_solution}
use Rattle.table.proofs.Ordering.{before_once}

-- the body atoms of the first clauses, with one clause before them
behind : (d : Clause) (cs : List Clause) (k i : ℕ) → length (bodies (take (suc k) (d ∷ cs))) + i ≡ length d.body + (length (bodies (take k cs)) + i)
behind d cs k i = rw length-append (omega arith)

-- the body atoms of the clauses before clause k, and i more: body atom i of clause k
pub body_nth : (cs : List Clause) {k i : ℕ} {c : Clause} {A : Term} → Nth cs k c → Nth c.body i A → Nth (bodies cs) (length (bodies (take k cs)) + i) A
body_nth [] {k = k} {i = i} {c = c} {A = A} x'' hA = elim x'' [ ]
body_nth (c ∷ cs) {i = i} here hA = let e : 0 + i ≡ i = omega arith in rw e (nth_left (bodies cs) hA)
body_nth (d ∷ cs) {i = i} (there {n = k} hc) hA = rw (behind d cs k i) (nth_right d.body (body_nth cs hc hA))

-- the body atoms of a clause stand before those of later clauses
pub earlier_clause : (cs : List Clause) {k : ℕ} {c : Clause} → Nth cs k c → (k' i : ℕ) → k < k' → i < length c.body → length (bodies (take k cs)) + i < length (bodies (take k' cs))
earlier_clause [] {k = k} {c = c} x3 _ i h l = elim x3 [ ]
earlier_clause (c ∷ cs) here (suc k') i h l = rw length-append (omega arith)
earlier_clause (c ∷ cs) here zero i h l = absurd (omega arith)
earlier_clause (d ∷ cs) (there hc) zero i h l = absurd (omega arith)
earlier_clause (d ∷ cs) (there {n = k} hc) (suc k') i h l = let e = earlier_clause cs hc k' i (omega arith) l in simp length-append (omega arith)

module _ (d : Clause) (cs : List Clause) (j : ℕ) where
  pub clause_first_law : j < length d.body → clause_at (d ∷ cs) j ≡ 0
  clause_first_law l = rw (lt-ltb j (length d.body) l)

  pub place_first : j < length d.body → place_at (d ∷ cs) j ≡ j
  place_first l = rw (lt-ltb j (length d.body) l)

  less : length d.body + j - length d.body ≡ j
  less = omega arith

  pub clause_behind : clause_at (d ∷ cs) (length d.body + j) ≡ suc (clause_at cs j)
  clause_behind = rw (le-ltb (length d.body + j) (length d.body) (omega arith), less)

  pub place_behind : place_at (d ∷ cs) (length d.body + j) ≡ place_at cs j
  place_behind = rw (le-ltb (length d.body + j) (length d.body) (omega arith), less)

-- a body atom's clause and place are read back from its number
pub clause_at_law : (cs : List Clause) {k : ℕ} {c : Clause} → Nth cs k c → (i : ℕ) → i < length c.body → clause_at cs (length (bodies (take k cs)) + i) ≡ k
clause_at_law [] {k = k} {c = c} x'' i l = elim x'' [ ]
clause_at_law (c ∷ cs) here i l = clause_first_law c cs (0 + i) (omega arith)
clause_at_law (d ∷ cs) (there {n = k} hc) i l = rw (behind d cs k i, clause_behind d cs (length (bodies (take k cs)) + i), clause_at_law cs hc i l)

pub place_at_law : (cs : List Clause) {k : ℕ} {c : Clause} → Nth cs k c → (i : ℕ) → i < length c.body → place_at cs (length (bodies (take k cs)) + i) ≡ i
place_at_law [] {k = k} {c = c} x'' i l = elim x'' [ ]
place_at_law (c ∷ cs) here i l = place_first c cs (0 + i) (omega arith) ∙ omega arith
place_at_law (d ∷ cs) (there {n = k} hc) i l = rw (behind d cs k i, place_behind d cs (length (bodies (take k cs)) + i), place_at_law cs hc i l)

-- each number below that of all body atoms is the number of a body atom
pub record BodyAt (cs : List Clause) (j : ℕ) : Type 0 where
  pub clause : Clause
  pub atom : Term
  pub nth_clause : Nth cs (clause_at cs j) clause
  pub nth_atom : Nth clause.body (place_at cs j) atom
  pub index : length (bodies (take (clause_at cs j) cs)) + place_at cs j ≡ j

pub body_at : (cs : List Clause) (j : ℕ) → j < length (bodies cs) → BodyAt cs j
body_at [] j l = absurd (omega arith)
body_at (c ∷ cs) j l = at (body_at cs (j - length c.body)) (dec_lt j (length c.body))
  where
    later : (j' : ℕ) → BodyAt cs j' → BodyAt (c ∷ cs) (length c.body + j')
    later j' b =
        record {
          clause = b.clause;
          atom = b.atom;
          nth_clause = rw (clause_behind c cs j') (there b.nth_clause);
          nth_atom = rw (place_behind c cs j') b.nth_atom;
          index = rw (clause_behind c cs j', place_behind c cs j', behind c cs (clause_at cs j') (place_at cs j')) (ap (λ (n : ℕ). length c.body + n) b.index);
        }

    at : (j - length c.body < length (bodies cs) → BodyAt cs (j - length c.body)) → Dec (j < length c.body) → BodyAt (c ∷ cs) j
    at below (yes h) =
        let (A, hA) = below_nth c.body j h in
        record {
          clause = c;
          atom = A;
          nth_clause = rw (clause_first_law c cs j h) here;
          nth_atom = rw (place_first c cs j h) hA;
          index = rw (clause_first_law c cs j h, place_first c cs j h) (omega arith);
        }
    at below (no g) =
        let e : j ≡ length c.body + (j - length c.body) = omega arith in
        rw e (later (j - length c.body) (below (let m = rw length-append at l in omega arith)))

-- the parts of a key
pub key_slot : (slot M : ℕ) → M < masks → (slot * masks + M) / masks ≡ slot
key_slot slot M l = omega arith

pub key_mask : (slot M : ℕ) → M < masks → (slot * masks + M) % masks ≡ M
key_mask slot M l = omega arith

-- the rows of the slots, by kind
module _ (p : Program) where
  pub call_at : (s M : ℕ) → s < first_cont → row_at p s M ≡ call s M
  call_at s M l = rw (lt-ltb s first_cont l)

  pub cont_at : (j M : ℕ) → j < first_cont → row_at p (first_cont + j) M ≡ cont (suc (clause_at p.clauses j)) (suc (place_at p.clauses j)) M
  cont_at j M l =
      let e : first_cont + j - first_cont ≡ j = omega arith in
      rw (le-ltb (first_cont + j) first_cont (omega arith), lt-ltb (first_cont + j) first_solution (omega arith), e)

  pub solution_at : (s M : ℕ) → row_at p (first_solution + s) M ≡ solution s M
  solution_at s M =
      let e : first_solution + s - first_solution ≡ s = omega arith in
      rw (le-ltb (first_solution + s) first_cont (omega arith), le-ltb (first_solution + s) first_solution (omega arith), e)

  -- the number of a cont row's body atom is below that of all
  pub index_below : {k i : ℕ} {c : Clause} {A : Term} → Nth p.clauses k c → Nth c.body i A → body_index p k i < length (bodies p.clauses)
  index_below hc hA = nth_below (body_nth p.clauses hc hA)

  pub mask_small : {row : Row ℕ} → Regular p row → mask row < masks
  mask_small (regular_call hs w l) = l
  mask_small (regular_cont hc hA w l) = l
  mask_small (regular_solution hs w l) = l

module _ (p : Program) (few : Few p) where
  -- a row is read back from its slot and its mask
  pub row_of_slot : {row : Row ℕ} → Regular p row → row_at p (slot_of p row) (mask row) ≡ row
  row_of_slot (regular_call {s} {M} hs w l) = call_at p s M (omega (arith, nth_below hs, few.shapes_few))
  row_of_slot (regular_cont {k} {i} {M} hc hA w l) =
      cont_at p (body_index p k i) M (omega (arith, index_below p hc hA, few.bodies_few))
      ∙ rw (clause_at_law p.clauses hc i (nth_below hA), place_at_law p.clauses hc i (nth_below hA))
  row_of_slot (regular_solution {s} {M} hs w l) = solution_at p s M

  -- and from its key
  pub row_of_key : {row : Row ℕ} → Regular p row → row_of p (row_key p row) ≡ row
  row_of_key {row} g = rw (key_slot (slot_of p row) (mask row) (mask_small p g), key_mask (slot_of p row) (mask row) (mask_small p g)) (row_of_slot g)

  -- no two rows have one key
  pub key_injective : {row row' : Row ℕ} → Regular p row → Regular p row' → row_key p row ≡ row_key p row' → row ≡ row'
  key_injective g g' e = sym (row_of_key g) ∙ (ap (row_of p) e ∙ row_of_key g')

-- of two keys the first is less where its slot is less, or its mask in the same slot
pub key_less : (slot M slot' M' : ℕ) → M < masks → M' < masks → slot * masks + M < slot' * masks + M' → (slot < slot') ⊎ ((slot ≡ slot') × (M < M'))
key_less slot M slot' M' l l' h = at (dec_lt slot slot')
  where
    at : Dec (slot < slot') → (slot < slot') ⊎ ((slot ≡ slot') × (M < M'))
    at (yes g) = inl g
    at (no g) = inr (omega arith, omega arith)

-- of two body atoms the first has the lesser number where its clause is less, or its place in the same clause
pub index_less : (p : Program) {k i k' i' : ℕ} {c c' : Clause} {A A' : Term}
    → Nth p.clauses k c → Nth c.body i A → Nth p.clauses k' c' → Nth c'.body i' A'
    → body_index p k i < body_index p k' i' → (k < k') ⊎ ((k ≡ k') × (i < i'))
index_less p {k} {i} {k'} {i'} hc hA hc' hA' h = at (dec_lt k k') (ℕ_discrete k k')
  where
    at : Dec (k < k') → Dec (k ≡ k') → (k < k') ⊎ ((k ≡ k') × (i < i'))
    at (yes g) _ = inl g
    at (no g) (yes e) = inr (e, let m : length (bodies (take k' p.clauses)) + i < length (bodies (take k' p.clauses)) + i' = rw e at h in omega arith)
    at (no g) (no ne) = absurd (let m = earlier_clause p.clauses hc' k i' (omega arith) (nth_below hA') in omega arith)

pub index_same : (p : Program) {k i k' i' : ℕ} {c c' : Clause} {A A' : Term}
    → Nth p.clauses k c → Nth c.body i A → Nth p.clauses k' c' → Nth c'.body i' A'
    → body_index p k i ≡ body_index p k' i' → (k ≡ k') × (i ≡ i')
index_same p {k} {i} {k'} {i'} hc hA hc' hA' e = (
  sym (clause_at_law p.clauses hc i (nth_below hA)) ∙ (ap (clause_at p.clauses) e ∙ clause_at_law p.clauses hc' i' (nth_below hA')),
  sym (place_at_law p.clauses hc i (nth_below hA)) ∙ (ap (place_at p.clauses) e ∙ place_at_law p.clauses hc' i' (nth_below hA')),
)

module _ (p : Program) (few : Few p) where
  -- keys stand in the order of their rows' words
  pub key_before : {row row' : Row ℕ} → Regular p row → Regular p row' → row_key p row < row_key p row' → Before (row_words row) (row_words row')
  key_before (regular_call {s} {M} hs w l) (regular_call {s = s'} {M = M'} hs' w' l') h = at (key_less s M s' M' l l' h)
    where
      at : (s < s') ⊎ ((s ≡ s') × (M < M')) → Before (row_words (call s M)) (row_words (call s' M'))
      at (inl g) = inr (refl, inl g)
      at (inr (e, g)) = inr (refl, inr (e, inr (refl, inl g)))
  key_before (regular_call hs w l) (regular_cont hc hA w' l') h = inl (omega arith)
  key_before (regular_call hs w l) (regular_solution hs' w' l') h = inl (omega arith)
  key_before (regular_cont hc hA w l) (regular_call hs' w' l') h = absurd (omega (arith, nth_below hs', few.shapes_few))
  key_before (regular_cont {k} {i} {M} hc hA w l) (regular_cont {k = k'} {i = i'} {M = M'} hc' hA' w' l') h = at (key_less (first_cont + body_index p k i) M (first_cont + body_index p k' i') M' l l' h)
    where
      other : (k < k') ⊎ ((k ≡ k') × (i < i')) → Before (row_words (cont (suc k) (suc i) M)) (row_words (cont (suc k') (suc i') M'))
      other (inl g) = inr (refl, inl (omega arith))
      other (inr (e, g)) = inr (refl, inr (ap suc e, inl (omega arith)))

      at : (first_cont + body_index p k i < first_cont + body_index p k' i') ⊎ ((first_cont + body_index p k i ≡ first_cont + body_index p k' i') × (M < M'))
          → Before (row_words (cont (suc k) (suc i) M)) (row_words (cont (suc k') (suc i') M'))
      at (inl g) = other (index_less p hc hA hc' hA' (omega arith))
      at (inr (e, g)) = let (d, d') = index_same p hc hA hc' hA' (omega arith) in inr (refl, inr (ap suc d, inr (ap suc d', inl g)))
  key_before (regular_cont hc hA w l) (regular_solution hs' w' l') h = inl (omega arith)
  key_before (regular_solution hs w l) (regular_call hs' w' l') h = absurd (omega (arith, nth_below hs', few.shapes_few))
  key_before (regular_solution hs w l) (regular_cont hc hA w' l') h = absurd (omega (arith, index_below p hc hA, few.bodies_few))
  key_before (regular_solution {s} {M} hs w l) (regular_solution {s = s'} {M = M'} hs' w' l') h = at (key_less (first_solution + s) M (first_solution + s') M' l l' h)
    where
      at : (first_solution + s < first_solution + s') ⊎ ((first_solution + s ≡ first_solution + s') × (M < M')) → Before (row_words (solution s M)) (row_words (solution s' M'))
      at (inl g) = inr (refl, inl (omega arith))
      at (inr (e, g)) = inr (refl, inr (omega arith, inr (refl, inl g)))

  pub before_key : {row row' : Row ℕ} → Regular p row → Regular p row' → Before (row_words row) (row_words row') → row_key p row < row_key p row'
  before_key {row} {row'} g g' b = at (dec_lt (row_key p row) (row_key p row')) (dec_lt (row_key p row') (row_key p row))
    where
      same : row_key p row ≡ row_key p row' → row_key p row < row_key p row'
      same e = let d = key_injective p few g g' e in absurd (before_once (row_words row) (row_words row') b (subst (λ (r : Row ℕ). Before (row_words r) (row_words row)) d (subst (λ (r : Row ℕ). Before (row_words row) (row_words r)) (sym d) b)))

      at : Dec (row_key p row < row_key p row') → Dec (row_key p row' < row_key p row) → row_key p row < row_key p row'
      at (yes l) _ = l
      at (no nl) (yes m) = absurd (before_once (row_words row) (row_words row') b (key_before g' g m))
      at (no nl) (no nm) = same (omega arith)

  -- entries stand by their rounds, and in one round by their keys
  pub entry_before : (e f : Entry) → Regular p e.row → Regular p f.row
      → Before (entry_words e) (entry_words f) ↔ ((e.round < f.round) ⊎ ((e.round ≡ f.round) × (row_key p e.row < row_key p f.row)))
  entry_before e f g g' = (to, from)
    where
      to : Before (entry_words e) (entry_words f) → (e.round < f.round) ⊎ ((e.round ≡ f.round) × (row_key p e.row < row_key p f.row))
      to (inl l) = inl l
      to (inr (d, b)) = inr (d, before_key g g' b)

      from : (e.round < f.round) ⊎ ((e.round ≡ f.round) × (row_key p e.row < row_key p f.row)) → Before (entry_words e) (entry_words f)
      from (inl l) = inl l
      from (inr (d, l)) = inr (d, key_before g g' l)
