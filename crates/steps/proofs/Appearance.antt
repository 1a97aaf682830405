-- The variables of a run in a list, by first appearance, with the set of those met: one cell more, and what the list says of an atom at last.
use Prim.Native.Nat.{ℕ, suc, ◌+◌, ◌-◌, ◌^◌, ◌≤◌, ◌<◌}
use native.Mathlib.Numerals.{add-one}
use native.Mathlib.Omega.{arith}
use native.Mathlib.Decide.{ℕ_discrete}
use mathlib.Core.Path.{◌≡◌, refl, sym, ap, ◌∙◌}
use mathlib.Core.Logic.{◌↔◌, ◌⊎◌, inl, inr, ⊎_elim}
use mathlib.Core.List.Memᴰ
use mathlib.Core.List.{List, [], ◌∷◌, ◌++◌, Memᴰ}
use lib.ListN.{length, get_or, set, take, length-set, length-append}
use lib.Seq.{take-suc-set, get_or-take}
use lib.Bits.{bit_or}
use borrow.Author.Tests.{lt-ltb, le-ltb}
use Rattle.terms.specs.Term.{Term, Occ}
use Rattle.terms.specs.Cells.{first_variable, variables}
use Rattle.terms.specs.Mask.{Has, Marks}
use Rattle.terms.specs.Walk.{Cells}
use Rattle.terms.proofs.Masks.{has_none, has_one, marks_or, marks_for}
use Rattle.marks.specs.Modes.{InOrder}
use Rattle.program.specs.Program.{Nth, here, there}
use Rattle.program.specs.Shapes.{met, number}
use Rattle.program.specs.Lists.{Distinct}
use Rattle.program.proofs.ShapeLaws.{nth_member, nth_get_d, place_nth, met_has, met_occurs}
use Rattle.program.proofs.OwnShape.{with_old, with_new, up_to, length_up_to, up_to_has}
use Rattle.program.proofs.Nths.{nth_below, below_nth}
use Rattle.directory.specs.Numbers.{met_cell, met_cells}
use Rattle.directory.proofs.TermCells.{atom_met, atom_all_cells}
use Rattle.table.proofs.Distinct.{distinct_length}
use Rattle.table.proofs.ShapeVariables.{with_distinct}
use Rattle.steps.specs.Situation.{AtomRun, AnAtom}

-- the list begins with the variables met, each once, and the set has them
pub record Ordered (seen order : List ℕ) (set count : ℕ) : Type 0 where
  pub as_many : length order ≡ variables
  pub count_is : count ≡ length seen
  pub first : take count order ≡ seen
  pub marked : Marks (λ v. Memᴰ v seen) set
  pub once : Distinct seen
  pub small : (v : ℕ) → Memᴰ v seen → v < variables

pub none_ordered : (order : List ℕ) → length order ≡ variables → Ordered [] order 0 0
none_ordered order e =
    record {
      as_many = e;
      count_is = refl;
      first = refl;
      marked = λ v. (λ h. absurd (has_none v h), λ m. absurd (Memᴰ.not-nil m));
      once = tt;
      small = λ v m. absurd (Memᴰ.not-nil m);
    }

-- variables that are at most 15, each once, are at most 16
few_variables : (l : List ℕ) → Distinct l → ((v : ℕ) → Memᴰ v l → v < variables) → length l ≤ variables
few_variables l once small =
    rw (length_up_to variables) at (distinct_length l (up_to variables) once (λ v m. up_to_has variables v (small v m)))

module _ {seen order : List ℕ} {s n : ℕ} (h : Ordered seen order s n) where
  pub ordered_few : n ≤ variables
  ordered_few = rw h.count_is (few_variables seen h.once h.small)

  pub ordered_below : (k : ℕ) → k < n → get_or order k 0 < variables
  ordered_below k l =
      let (x, q) = below_nth seen k (rw h.count_is at l) in
      let e : get_or order k 0 ≡ x = sym (get_or-take n order k 0 l) ∙ ap (λ (o : List ℕ). get_or o k 0) h.first ∙ nth_get_d 0 q in
      rw e (h.small x (nth_member q))

  module _ (c : ℕ) where
    -- a function's cell has no variable
    pub function_ordered : c < first_variable → Ordered (met_cell seen c) order s n
    function_ordered l = rw (lt-ltb c first_variable l) h

    module _ (l : first_variable ≤ c) (few : c < first_variable + variables) where
      abbrev v : ℕ
      v = c - first_variable

      -- a variable met before
      pub old_ordered : Has s v → Ordered (met_cell seen c) order s n
      old_ordered b = rw (le-ltb c first_variable l, with_old ℕ_discrete seen v ((h.marked v).0 b)) h

      -- a variable met first here
      module _ (b : Has s v → ⊥) where
        missing : Memᴰ v seen → ⊥
        missing m = b ((h.marked v).1 m)

        abbrev extended : List ℕ
        extended = seen ++ (v ∷ [])

        in_extended : (x : ℕ) → Memᴰ x extended → Memᴰ x seen ⊎ (x ≡ v)
        in_extended x m = ⊎_elim inl (λ q. inr (Memᴰ.eq_of_singleton q)) (Memᴰ.append_cases seen m)

        once_more : Distinct extended
        once_more = rw (with_new ℕ_discrete seen v missing) at (with_distinct ℕ_discrete seen v h.once)

        small_more : (x : ℕ) → Memᴰ x extended → x < variables
        small_more x m = ⊎_elim (h.small x) (λ (e : x ≡ v). omega arith) (in_extended x m)

        pub room_left : n < variables
        room_left = omega (arith, h.count_is, few_variables extended once_more small_more, length-append seen (v ∷ []))

        pub new_ordered : Ordered (met_cell seen c) (set order n v) (bit_or s (2 ^ v)) (n + 1)
        new_ordered =
            rw (le-ltb c first_variable l, with_new ℕ_discrete seen v missing)
            (record {
              as_many = rw (length-set order n v) h.as_many;
              count_is = omega (arith, h.count_is, length-append seen (v ∷ []));
              first = rw (add-one n, take-suc-set order n v (rw h.as_many room_left), h.first);
              marked = marks_for (bit_or s (2 ^ v)) same (marks_or s (2 ^ v) h.marked (has_one v));
              once = once_more;
              small = small_more;
            })
          where
            same : (x : ℕ) → (Memᴰ x seen ⊎ (x ≡ v)) ↔ Memᴰ x extended
            same x = (⊎_elim (Memᴰ.append_left (v ∷ [])) (λ (e : x ≡ v). Memᴰ.append_right seen (Memᴰ.head e)), in_extended x)

-- an element stands at one place of a list that has each once
nth_once_at : {l : List ℕ} {i j : ℕ} {a b : ℕ} → Distinct l → a ≡ b → Nth l i a → Nth l j b → i ≡ j
nth_once_at d e here here = refl
nth_once_at d e here (there q) = absurd (d.0 (rw e (nth_member q)))
nth_once_at d e (there q) here = absurd (d.0 (rw (← e) (nth_member q)))
nth_once_at d e (there q) (there r) = ap suc (nth_once_at d.1 e q r)

pub nth_once : {l : List ℕ} {i j : ℕ} {a : ℕ} → Distinct l → Nth l i a → Nth l j a → i ≡ j
nth_once d q r = nth_once_at d refl q r

module _ (A : Term) {order : List ℕ} {s n : ℕ} (h : Ordered (met [] A) order s n) where
  listed : (k : ℕ) → k < n → get_or order k 0 ≡ get_or (met [] A) k 0
  listed k l = rw (← h.first) (sym (get_or-take n order k 0 l))

  pub ordered_in_order : InOrder A (number A) order n
  ordered_in_order = record { placed = placed; present = present }
    where
      placed : (v : ℕ) → Occ v A → (number A v < n) × (get_or order (number A v) 0 ≡ v)
      placed v o =
          let q = place_nth ℕ_discrete v (met [] A) (met_has A [] v o) in
          let l : number A v < n = rw h.count_is (nth_below q) in
          (l, listed (number A v) l ∙ nth_get_d 0 q)

      present : (k : ℕ) → k < n → Occ (get_or order k 0) A × (number A (get_or order k 0) ≡ k)
      present k l =
          let (x, q) = below_nth (met [] A) k (rw h.count_is at l) in
          let e : get_or order k 0 ≡ x = listed k l ∙ nth_get_d 0 q in
          rw e (met_occurs A x (nth_member q), nth_once h.once (place_nth ℕ_discrete x (met [] A) (nth_member q)) q)

-- the run of an atom
pub run_cells : (run : List ℕ) → AnAtom run → Cells run
run_cells run a =
    let r = a.atom_run in
    rw r.is (atom_all_cells r.predicates r.functions r.few a.A r.atom)

pub run_in_order : (run order : List ℕ) (s n : ℕ) → Ordered (met_cells [] run) order s n → (A : Term) → AtomRun run A → InOrder A (number A) order n
run_in_order run order s n h A r =
    ordered_in_order A (rw (r.is, atom_met r.predicates r.functions r.few A r.atom) at h)
