-- Clauses that no new row concerns give nothing in a round; and the index that finds those that one does.
use Prim.Native.Nat.{ℕ, zero, suc, ◌+◌, ◌-◌, ◌*◌, ◌^◌, ◌%◌, ◌≤◌, ◌<◌}
use native.Mathlib.Omega.{arith}
use native.Mathlib.Nat.{one-mul, mod-eq_of_lt}
use native.Mathlib.Decide.{dec_lt, ℕ_discrete}
use mathlib.Core.Path.{◌≡◌, refl, sym, ap, ◌∙◌}
use mathlib.Core.Logic.{inl, inr}
use mathlib.Core.List.{List}
use lib.ListN.{length, get_or, set}
use lib.Seq.{get_or-set_same, get_or-set_other}
use lib.Pow.{pow-lt}
use lib.Bits.{bit_or}
use Rattle.terms.specs.Term.{Term, Subst, sub}
use Rattle.terms.specs.Mask.{Has}
use Rattle.terms.proofs.Masks.{has_or, has_one}
use Rattle.marks.specs.Modes.{modes}
use Rattle.program.specs.Program.{Nth, Clause, Program}
use Rattle.program.specs.Shapes.{shapes}
use Rattle.program.proofs.Nths.{nth_below}
use Rattle.directory.specs.Layout.{clause_head, clause_first, body_start, shape_start, shape_cells, dir_words}
use Rattle.directory.specs.Directory.{predicate_of}
use Rattle.rows.specs.Rows.{slot_at, mask_at, key_at, keys_of}
use Rattle.rows.proofs.Keys.{key_slot, key_mask, key_listed}
use Rattle.table.specs.Rules.{Row, call, cont, solution}
use Rattle.table.specs.Table.{mask}
use Rattle.table.specs.Keys.{slot_of, row_of, Regular, regular_call, regular_cont, regular_solution, body_index, first_cont, first_solution}
use Rattle.table.specs.Steps.{opens, makes, ends_in}
use Rattle.table.specs.NewRows.{New, NewReached, new_on_head, NewIn}
use Rattle.table.proofs.Keys.{mask_small}
use Rattle.steps.specs.Steps.{RowsIn}
use Rattle.steps.specs.Situation.{Setting, Chains, Situation, BodyOf}
use Rattle.steps.proofs.Meetings.{setting_within, one_predicate}
use Rattle.steps.proofs.Bodies.{head_is_atom, body_is_atom, body_there, body_few}
use Rattle.steps.proofs.BodyAtoms.{some_cells, predicate_there}
use Rattle.steps.proofs.ShapeAtoms.{shape_is_atom}
use Rattle.steps.proofs.SlotRows.{in_slot}
use Rattle.concerns.specs.Standing.{Stands, Belongs}
use Rattle.concerns.specs.Active.{Concerns, by_call, by_cont, by_solution, Entered, HeadsEntered, BodiesEntered, ShapeAsked}
use Rattle.concerns.proofs.BodyClauses.{clause_few, place_few, cont_body}

-- a round looks at nothing in a clause that no new row concerns
module _ {words dir : List ℕ} {p : Program} (s : Setting words dir p) (T₀ T : Row ℕ → Type 0) (k : ℕ)
    (none : (row : Row ℕ) → New modes p T₀ T row → Concerns p k row → ⊥) where
  head_shape : {c : Clause} {S : Term} {n : ℕ} → Nth p.clauses k c → Nth (shapes p) n S → (α β : Subst) → sub S α ≡ sub c.head β → predicate_of c.head ≡ predicate_of S
  head_shape hc hs α β e = one_predicate α β (shape_is_atom p (setting_within s) hs) (head_is_atom s hc) e

  not_reached : (i N : ℕ) → NewReached modes p T₀ T k i N → ⊥
  not_reached zero N (n, M, new, opens hc hs passed) = none (call n M) new (by_call hc hs (head_shape hc hs passed.α passed.β passed.unifier.unifies))
  not_reached (suc i) N (M, n, L, there, there', inl new, made) = none (cont (suc k) (suc i) M) (there, new) by_cont
  not_reached (suc i) N (M, n, L, there, there', inr new, makes hc hA hs passed joined) =
      none (solution n L) (there', new)
      (by_solution hc hA hs (one_predicate passed.α passed.β (shape_is_atom p (setting_within s) hs) (body_is_atom s hc hA) passed.unifier.unifies))

  pub not_looked : (row : Row ℕ) → NewIn modes p T₀ T k row → ⊥
  not_looked row (inl (i, (N, reached, goes))) = not_reached i N reached
  not_looked row (inr (inl (N, new_on_head {c = c} hc reached, n, C, called, ends))) = not_reached (length c.body) N reached
  not_looked _ (inr (inr (N, marks, n, C, called, ends_in hc hs passed))) =
      none (call n C) called (by_call hc hs (head_shape hc hs passed.β passed.α (sym passed.unifier.unifies)))

-- a new row stands from `since` on
pub new_stands : (p : Program) (table heads : List ℕ) (since rows : ℕ) → Chains p table heads since rows → (row : Row ℕ)
    → New modes p (RowsIn p (keys_of table since)) (RowsIn p (keys_of table rows)) row
    → (r : ℕ) × (since ≤ r) × (r < rows) × (slot_at table r ≡ slot_of p row) × (mask_at table r ≡ mask row)
new_stands p table heads since rows chains row (there, new) =
    let (r, l, e, m) = in_slot p table heads since rows chains rows row (omega arith) there in
    (r, at r e m (dec_lt r since), l, e, m)
  where
    at : (r : ℕ) → slot_at table r ≡ slot_of p row → mask_at table r ≡ mask row → Dec (r < since) → since ≤ r
    at r e m (yes b) = absurd (new (there.0, rw (e, m) at (key_listed table since r b)))
    at r e m (no b) = omega arith

-- a row of the table is one of the program
pub row_there : {words dir table heads : List ℕ} {since rows : ℕ} (w : Situation words dir table heads since rows) (r : ℕ) → r < rows → Stands words dir table r
row_there {table = table} w r l =
    let g = w.chains.regular r l in
    let row = row_of w.p (key_at table r) in
    record {
      p = w.p;
      setting = w.setting;
      row = row;
      regular = g.0;
      slot = key_slot (slot_at table r) (mask_at table r) (slot_of w.p row) (mask row) (w.chains.masks_below r l) (mask_small w.p g.0) (sym g.1);
      its_mask = key_mask (slot_at table r) (mask_at table r) (slot_of w.p row) (mask row) (w.chains.masks_below r l) (mask_small w.p g.0) (sym g.1);
    }

-- one clause more
pub shifted_bit : (k : ℕ) → k < 64 → 1 * 2 ^ k % 18446744073709551616 ≡ 2 ^ k
shifted_bit k l = rw one-mul (mod-eq_of_lt (pow-lt {j = 64} l))

pub entered_one : (sets : List ℕ) (q k : ℕ) → q < length sets → k < 64 → Entered sets (set sets q (bit_or (get_or sets q 0) (1 * 2 ^ k % 18446744073709551616))) q k
entered_one sets q k l few =
    record {
      entered = rw (get_or-set_same sets q (bit_or (get_or sets q 0) (1 * 2 ^ k % 18446744073709551616)) 0 l, shifted_bit k few) ((has_or (get_or sets q 0) (2 ^ k) k).1 (inr ((has_one k k).1 refl)));
      kept = λ x v h. at x v h (ℕ_discrete x q);
    }
  where
    at : (x v : ℕ) → Has (get_or sets x 0) v → Dec (x ≡ q) → Has (get_or (set sets q (bit_or (get_or sets q 0) (1 * 2 ^ k % 18446744073709551616))) x 0) v
    at x v h (yes e) =
        rw (e, get_or-set_same sets q (bit_or (get_or sets q 0) (1 * 2 ^ k % 18446744073709551616)) 0 l)
        ((has_or (get_or sets q 0) (1 * 2 ^ k % 18446744073709551616) v).1 (inl (rw e at h)))
    at x v h (no o) = rw (get_or-set_other sets q x (bit_or (get_or sets q 0) (1 * 2 ^ k % 18446744073709551616)) 0 o) h

module _ {words dir : List ℕ} {p : Program} (s : Setting words dir p) where
  -- heads and body atoms stand in the words with their predicates first
  module _ {k : ℕ} {c : Clause} (hc : Nth p.clauses k c) where
    abbrev head_at : ℕ
    head_at = get_or dir (clause_head + k) 0

    pub head_in_words : (k < 64) × (head_at < length words)
    head_in_words =
        let a = head_is_atom s hc in
        let at = (s.directory.clause hc).stands in
        (omega (arith, nth_below hc, (setting_within s).clauses_most), omega (arith, at.fits, some_cells at a.predicate a.arguments a.is))

    pub head_first : get_or words head_at 0 ≡ predicate_of c.head
    head_first = let a = head_is_atom s hc in predicate_there (s.directory.clause hc).stands a.predicate a.arguments a.is ∙ ap predicate_of (sym a.is)

    pub head_declared : get_or words head_at 0 < 64
    head_declared = let a = head_is_atom s hc in omega (arith, predicate_there (s.directory.clause hc).stands a.predicate a.arguments a.is, a.declared, (setting_within s).predicates_most)

  module _ {j : ℕ} (b : BodyOf p j) where
    abbrev body_at : ℕ
    body_at = get_or dir (body_start + j) 0

    pub body_in_words : (b.k < 64) × (j < 1024) × (body_at < length words)
    body_in_words =
        let a = body_is_atom s b.nth_clause b.nth_atom in
        let at = rw (← b.is) at (body_there s b.nth_clause b.nth_atom).stands in (
          omega (arith, nth_below b.nth_clause, (setting_within s).clauses_most),
          omega (arith, body_few s b.nth_clause b.nth_atom, b.is),
          omega (arith, at.fits, some_cells at a.predicate a.arguments a.is),
        )

    pub body_first : get_or words body_at 0 ≡ predicate_of b.A
    body_first =
        let a = body_is_atom s b.nth_clause b.nth_atom in
        let at = rw (← b.is) at (body_there s b.nth_clause b.nth_atom).stands in
        predicate_there at a.predicate a.arguments a.is ∙ ap predicate_of (sym a.is)

    pub body_declared : get_or words body_at 0 < 64
    body_declared =
        let a = body_is_atom s b.nth_clause b.nth_atom in
        let e : predicate_of b.A ≡ a.predicate = ap predicate_of a.is in
        omega (arith, body_first, e, a.declared, (setting_within s).predicates_most)

  -- a shape stands in the directory with its predicate first
  module _ {n : ℕ} {S : Term} (hs : Nth (shapes p) n S) where
    abbrev shape_at : ℕ
    shape_at = shape_cells + get_or dir (shape_start + n) 0

    pub shape_in_dir : (n < first_cont) × (length dir ≡ dir_words) × (shape_at < length dir)
    shape_in_dir =
        let d = s.directory in
        let a = shape_is_atom p (setting_within s) hs in
        let at = (d.shape hs).stands in (
          omega (arith, nth_below hs, d.shape_count_law, d.shapes_most),
          d.size,
          omega (arith, at.fits, some_cells at a.predicate a.arguments a.is),
        )

    pub shape_first : get_or dir shape_at 0 ≡ predicate_of S
    shape_first = let a = shape_is_atom p (setting_within s) hs in predicate_there (s.directory.shape hs).stands a.predicate a.arguments a.is ∙ ap predicate_of (sym a.is)

    pub shape_declared : predicate_of S < 64
    shape_declared =
        let a = shape_is_atom p (setting_within s) hs in
        let e : predicate_of S ≡ a.predicate = ap predicate_of a.is in
        omega (arith, e, a.declared, (setting_within s).predicates_most)

-- the shape of a row by where its slot stands, and the clauses that the row concerns
module _ {words dir table : List ℕ} {r : ℕ} (w : Stands words dir table r) (slot : ℕ) (is : slot ≡ slot_at table r) where
  few_shapes : {n : ℕ} {S : Term} → Nth (shapes w.p) n S → n < first_cont
  few_shapes hs = (shape_in_dir w.setting hs).0

  few_bodies : {k i : ℕ} {c : Clause} {A : Term} → Nth w.p.clauses k c → Nth c.body i A → body_index w.p k i < 1024
  few_bodies hc hA = body_few w.setting hc hA

  pub call_shape : slot < first_cont → ShapeAsked words dir slot
  call_shape l = at w.row w.regular (is ∙ w.slot)
    where
      at : (row : Row ℕ) → Regular w.p row → slot ≡ slot_of w.p row → ShapeAsked words dir slot
      at _ (regular_call {S = S} hs within small) e = record { p = w.p; setting = w.setting; S = S; nth_shape = rw e hs }
      at _ (regular_cont hc hA within small) e = absurd (omega arith)
      at _ (regular_solution hs within small) e = absurd (omega arith)

  pub solution_shape : first_solution ≤ slot → ShapeAsked words dir (slot - first_solution)
  solution_shape l = at w.row w.regular (is ∙ w.slot)
    where
      at : (row : Row ℕ) → Regular w.p row → slot ≡ slot_of w.p row → ShapeAsked words dir (slot - first_solution)
      at _ (regular_call hs within small) e = absurd (omega (arith, few_shapes hs))
      at _ (regular_cont hc hA within small) e = absurd (omega (arith, few_bodies hc hA))
      at _ (regular_solution {s = n} {S = S} hs within small) e = let f : slot - first_solution ≡ n = omega arith in record { p = w.p; setting = w.setting; S = S; nth_shape = rw f hs }

  pub call_concerns : (set : List ℕ) (q : ℕ) → ((a : ShapeAsked words dir slot) → q ≡ predicate_of a.S) → slot < first_cont → HeadsEntered w.p set → (k : ℕ)
      → Concerns w.p k w.row → Has (get_or set q 0) k
  call_concerns set q named l entered k h = at w.row (is ∙ w.slot) w.regular h
    where
      at : (row : Row ℕ) → slot ≡ slot_of w.p row → Regular w.p row → Concerns w.p k row → Has (get_or set q 0) k
      at _ e g (by_call {c = c} {S = S} hc hs same) =
          let f : q ≡ predicate_of c.head = named (record { p = w.p; setting = w.setting; S = S; nth_shape = rw e hs }) ∙ sym same in
          rw f (entered k c hc)
      at _ e (regular_cont hc hA within small) by_cont = absurd (omega arith)
      at _ e g (by_solution hc hA hs same) = absurd (omega arith)

  pub solution_concerns : (set : List ℕ) (q : ℕ) → ((a : ShapeAsked words dir (slot - first_solution)) → q ≡ predicate_of a.S) → first_solution ≤ slot → BodiesEntered w.p set → (k : ℕ)
      → Concerns w.p k w.row → Has (get_or set q 0) k
  solution_concerns set q named l entered k h = at w.row (is ∙ w.slot) w.regular h
    where
      at : (row : Row ℕ) → slot ≡ slot_of w.p row → Regular w.p row → Concerns w.p k row → Has (get_or set q 0) k
      at _ e g (by_call hc hs same) = absurd (omega (arith, few_shapes hs))
      at _ e (regular_cont hc hA within small) by_cont = absurd (omega (arith, few_bodies hc hA))
      at _ e g (by_solution {i = i} {s = n} {c = c} {A = A} {S = S} hc hA hs same) =
          let d : slot - first_solution ≡ n = omega arith in
          let f : q ≡ predicate_of A = named (record { p = w.p; setting = w.setting; S = S; nth_shape = rw d hs }) ∙ sym same in
          rw f (entered k i c A hc hA)

  pub cont_concerns : (j k' : ℕ) → j ≡ slot - first_cont → ((b : BodyOf w.p j) → k' ≡ b.k) → first_cont ≤ slot → slot < first_solution → (k : ℕ) → Concerns w.p k w.row → (k' ≡ k) × (k < 64)
  cont_concerns j k' body named l l' k h = at w.row (is ∙ w.slot) w.regular h
    where
      at : (row : Row ℕ) → slot ≡ slot_of w.p row → Regular w.p row → Concerns w.p k row → (k' ≡ k) × (k < 64)
      at _ e g (by_call hc hs same) = absurd (omega (arith, few_shapes hs))
      at _ e (regular_cont {k = k} {i = i} {c = c} {A = A} hc hA within small) by_cont =
          (named (record { k = k; i = i; c = c; A = A; nth_clause = hc; nth_atom = hA; is = omega arith }), omega (arith, nth_below hc, (setting_within w.setting).clauses_most))
      at _ e g (by_solution hc hA hs same) = absurd (omega arith)

  -- the body atom of a cont row, and its clause
  pub cont_belongs : {j : ℕ} → (first_cont ≤ slot) × (slot < first_solution) × (j ≡ slot - first_cont) → Belongs words dir j
  cont_belongs (a, b, e) = rw e (record { p = w.p; setting = w.setting; body = cont_body w.setting w.row w.regular slot (is ∙ w.slot) a b })

  pub cont_few : {j k : ℕ} → (first_cont ≤ slot) × (slot < first_solution) × (j ≡ slot - first_cont) → ((v : Belongs words dir j) → k ≡ v.body.k)
      → (k < 64) × (length dir ≡ dir_words) × (get_or dir (clause_first + k) 0 ≤ j)
  cont_few {j} h named =
      let v = cont_belongs h in
      let few = clause_few v.setting j v.body in
      rw (named v) (few.0, few.1, (place_few v.setting j v.body).1)
