-- The lists of a clause's places: first the variables from each place on, from the last place to the first, and then those before it.
use Prim.Native.Nat.{ℕ, suc, ◌+◌, ◌≤◌, ◌<◌}
use native.Mathlib.Numerals.{add-one}
use native.Mathlib.Omega.{arith}
use native.Mathlib.Decide.{ℕ_discrete}
use mathlib.Core.Path.{◌≡◌, refl, ◌∙◌}
use mathlib.Core.Logic.{◌⊎◌, inl, inr, ◌↔◌}
use mathlib.Core.List.{List, [], ◌∷◌, ◌++◌}
use lib.ListN.{length, get_or, set, take, drop, length-set}
use lib.Bits.{bit_or, bit_and}
use lib.Seq.{get_or-set_same, get_or-set_other}
use Rattle.terms.specs.Term.{Term, Occ}
use Rattle.terms.specs.Mask.{Marks}
use Rattle.terms.proofs.Masks.{has_and, marks_or, marks_for}
use Rattle.program.specs.Program.{Nth, Clause, Program, bodies}
use Rattle.program.specs.Shapes.{In, Listed}
use Rattle.program.proofs.ShapeLaws.{nth_same}
use Rattle.program.proofs.Nths.{below_nth, nth_below}
use Rattle.directory.specs.Layout.{body_list}
use Rattle.directory.specs.Said.{said, Accepted}
use Rattle.directory.specs.Walked.{Placed}
use Rattle.directory.specs.Lists.{first_of, Later, ListedFrom, Lists}
use Rattle.directory.proofs.Cuts.{nth_drop, nth_take}
use Rattle.directory.proofs.PlacedLaws.{placed_kept}
use Rattle.directory.proofs.BodyNumbers.{body_number, number_before}

-- the head alone
pub head_alone : (H : Term) (ts : List Term) (m : ℕ) → ts ≡ [] → Marks (λ v. Occ v H) m → Marks (λ v. In v (H ∷ ts)) m
head_alone H ts m e h = rw e (marks_for m (λ v. (λ o. inl o, λ o. there v o)) h)
  where
    there : (v : ℕ) → In v (H ∷ []) → Occ v H
    there v (inl o) = o
    there v (inr o) = absurd o

-- one atom more before the others
pub atom_before : (H A : Term) (ts : List Term) (m n : ℕ) → Marks (λ v. In v (H ∷ ts)) m → Marks (λ v. Occ v A) n → Marks (λ v. In v (H ∷ A ∷ ts)) (bit_or m n)
atom_before H A ts m n h a = marks_for (bit_or m n) (λ v. (λ o. there v o, λ o. back v o)) (marks_or m n h a)
  where
    there : (v : ℕ) → In v (H ∷ ts) ⊎ Occ v A → In v (H ∷ A ∷ ts)
    there v (inl (inl o)) = inl o
    there v (inl (inr o)) = inr (inr o)
    there v (inr o) = inr (inl o)

    back : (v : ℕ) → In v (H ∷ A ∷ ts) → In v (H ∷ ts) ⊎ Occ v A
    back v (inl o) = inl (inl o)
    back v (inr (inl o)) = inr o
    back v (inr (inr o)) = inl (inr o)

in_last : (v : ℕ) (ts : List Term) (A : Term) → In v (ts ++ (A ∷ [])) ↔ (In v ts ⊎ Occ v A)
in_last v [] A = (λ o. there o, λ o. back o)
  where
    there : In v (A ∷ []) → In v [] ⊎ Occ v A
    there (inl o) = inr o
    there (inr o) = absurd o

    back : In v [] ⊎ Occ v A → In v (A ∷ [])
    back (inl o) = absurd o
    back (inr o) = inl o
in_last v (t ∷ ts) A = (λ o. there (in_last v ts A) o, λ o. back (in_last v ts A) o)
  where
    there : In v (ts ++ (A ∷ [])) ↔ (In v ts ⊎ Occ v A) → In v (t ∷ ts ++ (A ∷ [])) → In v (t ∷ ts) ⊎ Occ v A
    there h (inl o) = inl (inl o)
    there h (inr o) = by (h.0 o)
      where
        by : In v ts ⊎ Occ v A → In v (t ∷ ts) ⊎ Occ v A
        by (inl q) = inl (inr q)
        by (inr q) = inr q

    back : In v (ts ++ (A ∷ [])) ↔ (In v ts ⊎ Occ v A) → In v (t ∷ ts) ⊎ Occ v A → In v (t ∷ ts ++ (A ∷ []))
    back h (inl (inl o)) = inl o
    back h (inl (inr o)) = inr (h.1 (inl o))
    back h (inr o) = inr (h.1 (inr o))

-- one atom more behind the others
pub atom_behind : (ts : List Term) (A : Term) (m n : ℕ) → Marks (λ v. In v ts) m → Marks (λ v. Occ v A) n → Marks (λ v. In v (ts ++ (A ∷ []))) (bit_or m n)
atom_behind ts A m n h a = marks_for (bit_or m n) (λ v. (λ o. (in_last v ts A).1 o, λ o. (in_last v ts A).0 o)) (marks_or m n h a)

module _ (p : Program) (k : ℕ) (c : Clause) (before : List ℕ) where
  -- nothing is asked of places behind the last
  pub later_none : (i : ℕ) → length c.body ≤ i → Later p k c before before i
  later_none i h = record { size = refl; kept = λ x l. refl; later = λ y l l'. absurd (omega arith) }

  module _ (dir : List ℕ) (i : ℕ) (w : Later p k c before dir (suc i)) (A : Term) (q : Nth c.body i A) (room : body_list + (first_of p k + i) < length dir) where
    pub later_mask : (m n : ℕ) → Marks (λ v. In v (c.head ∷ drop (suc i) c.body)) m → Marks (λ v. Occ v A) n → Marks (λ v. In v (c.head ∷ drop i c.body)) (bit_or m n)
    later_mask m n h a = rw (nth_drop q) (atom_before c.head A (drop (suc i) c.body) m n h a)

    abbrev at : ℕ
    at = body_list + (first_of p k + i)

    pub later_more : (m : ℕ) → Marks (λ v. In v (c.head ∷ drop i c.body)) m → Later p k c before (set dir at m) i
    later_more m h =
        record {
          size = length-set dir at m ∙ w.size;
          kept = λ x l. get_or-set_other dir at x m 0 (λ z. omega arith) ∙ w.kept x l;
          later = λ y l l'. by y l l' (ℕ_discrete y i);
        }
      where
        by : (y : ℕ) → i ≤ y → y < length c.body → Dec (y ≡ i) → Marks (λ v. In v (c.head ∷ drop y c.body)) (get_or (set dir at m) (body_list + (first_of p k + y)) 0)
        by y l l' (yes same) = rw (same, get_or-set_same dir at m 0 room) h
        by y l l' (no other) = rw (get_or-set_other dir at (body_list + (first_of p k + y)) m 0 (λ z. omega arith)) (w.later y (omega arith) l')

  module _ (dir : List ℕ) (i : ℕ) (w : ListedFrom p k c before dir i) (A : Term) (q : Nth c.body i A)
      (room : body_list + (first_of p k + i) < length dir) (m : ℕ) (h : Marks (λ v. In v (c.head ∷ take i c.body)) m) where
    abbrev place : ℕ
    place = body_list + (first_of p k + i)

    pub before_mask : (n : ℕ) → Marks (λ v. Occ v A) n → Marks (λ v. In v (c.head ∷ take (i + 1) c.body)) (bit_or m n)
    before_mask n a = rw (add-one i, nth_take q) (atom_behind (c.head ∷ take i c.body) A m n h a)

    -- both before the place and from it on
    both : Marks (Listed c i) (bit_and (get_or dir place 0) m)
    both v =
        let l = w.rest.later i (omega arith) (nth_below q) v in
        let a = has_and (get_or dir place 0) m v in
        (λ b. ((h v).0 (a.0 b).1, l.0 (a.0 b).0), λ o. a.1 (l.1 o.1, (h v).1 o.0))

    pub listed_more : ListedFrom p k c before (set dir place (bit_and (get_or dir place 0) m)) (i + 1)
    listed_more =
        record {
          rest =
              record {
                size = length-set dir place (bit_and (get_or dir place 0) m) ∙ w.rest.size;
                kept = λ x l. get_or-set_other dir place x (bit_and (get_or dir place 0) m) 0 (λ z. omega arith) ∙ w.rest.kept x l;
                later = λ y l l'.
                    rw (get_or-set_other dir place (body_list + (first_of p k + y)) (bit_and (get_or dir place 0) m) 0 (λ z. omega arith)) (w.rest.later y (omega arith) l');
              };
          listed = λ y l. by y l (ℕ_discrete y i);
        }
      where
        by : (y : ℕ) → y < i + 1 → Dec (y ≡ i) → Marks (Listed c y) (get_or (set dir place (bit_and (get_or dir place 0) m)) (body_list + (first_of p k + y)) 0)
        by y l (yes same) = rw (same, get_or-set_same dir place (bit_and (get_or dir place 0) m) 0 room) both
        by y l (no other) = rw (get_or-set_other dir place (body_list + (first_of p k + y)) (bit_and (get_or dir place 0) m) 0 (λ z. omega arith)) (w.listed y (omega arith))

-- the same under the number that the code has for the body atom
module _ (p : Program) (k : ℕ) (c : Clause) (at-k : Nth p.clauses k c) (before dir : List ℕ) (j i : ℕ) (e : j ≡ first_of p k + i) (less : i < length c.body)
    (room : body_list + j < length dir) (m : ℕ) where
  module _ (w : Later p k c before dir (suc i)) (h : Marks (λ v. In v (c.head ∷ drop (suc i) c.body)) m) (n : ℕ)
      (f : (A : Term) → Nth (bodies p.clauses) j A → Marks (λ v. Occ v A) n) where
    pub later_mark : Marks (λ v. In v (c.head ∷ drop i c.body)) (bit_or m n)
    later_mark =
        let (A, q) = below_nth c.body i less in
        later_mask p k c before dir i w A q (rw e at room) m n h (f A (rw e (body_number p at-k q)))

    pub later_step : Later p k c before (set dir (body_list + j) (bit_or m n)) i
    later_step =
        let (A, q) = below_nth c.body i less in
        rw e (later_more p k c before dir i w A q (rw e at room) (bit_or m n) later_mark)

  module _ (w : ListedFrom p k c before dir i) (h : Marks (λ v. In v (c.head ∷ take i c.body)) m) where
    pub listed_step : ListedFrom p k c before (set dir (body_list + j) (bit_and (get_or dir (body_list + j) 0) m)) (i + 1)
    listed_step = let (A, q) = below_nth c.body i less in rw e (listed_more p k c before dir i w A q (rw e at room) m h)

    pub before_step : (n : ℕ) → ((A : Term) → Nth (bodies p.clauses) j A → Marks (λ v. Occ v A) n) → Marks (λ v. In v (c.head ∷ take (i + 1) c.body)) (bit_or m n)
    before_step n f =
        let (A, q) = below_nth c.body i less in
        before_mask p k c before dir i w A q (rw e at room) m h n (f A (rw e (body_number p at-k q)))

-- the lists of one clause more
module _ (p : Program) (k : ℕ) (c : Clause) (at-k : Nth p.clauses k c) (before d₀ d₁ d₂ : List ℕ) (w : Lists p before d₀ k) (l : Later p k c d₀ d₁ 0)
    (h : ListedFrom p k c d₁ d₂ (length c.body)) where
  untouched : (x : ℕ) → x < body_list + first_of p k → get_or d₂ x 0 ≡ get_or d₀ x 0
  untouched x q = h.rest.kept x q ∙ l.kept x q

  pub lists_more : Lists p before d₂ (k + 1)
  lists_more =
      record {
        size = h.rest.size ∙ l.size ∙ w.size;
        kept = λ x q. untouched x (omega arith) ∙ w.kept x q;
        lists = λ {x} q less y few. by q less y few (ℕ_discrete x k);
      }
    where
      by : {x : ℕ} {d : Clause} → Nth p.clauses x d → x < k + 1 → (y : ℕ) → y < length d.body → Dec (x ≡ k)
          → Marks (Listed d y) (get_or d₂ (body_list + (first_of p x + y)) 0)
      by {x} {d} q less y few (yes same) =
          let here : Nth p.clauses k d = rw same at q in
          let e : c ≡ d = nth_same at-k here in
          rw (same, ← e) (h.listed y (rw e few))
      by {x} {d} q less y few (no other) =
          let n = number_before p {k = k} q few (omega arith) in
          rw (untouched (body_list + (first_of p x + y)) (omega arith)) (w.lists q (omega arith) y few)

pub no_lists : (p : Program) (before : List ℕ) → Lists p before before 0
no_lists p before = record { size = refl; kept = λ x l. refl; lists = λ q l y h. absurd (omega arith) }

-- what was made from the last place to the first is what the lists are made of
pub later_own : (p : Program) (k : ℕ) (c : Clause) (before dir : List ℕ) → Later p k c before dir 0 → Later p k c dir dir 0
later_own p k c before dir w = record { size = refl; kept = λ x l. refl; later = w.later }

-- everything stays where it stands
pub later_placed : (words : List ℕ) (a : Accepted words) (k : ℕ) (c : Clause) (before dir : List ℕ) (i : ℕ)
    → Later (said words) k c before dir i → Placed words (said words) before → Placed words (said words) dir
later_placed words a k c before dir i w q = placed_kept words a before dir w.size (λ x l. w.kept x (omega arith)) q
