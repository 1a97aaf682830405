-- Rule 3 for one call row: marks that pass beside the shape's own, marks kept to the head's variables, and the solution row that they give.
use Prim.Native.Nat.{ℕ, ◌+◌, ◌≤◌, ◌<◌}
use native.Mathlib.Omega.{arith}
use native.Mathlib.Decide.{dec_lt}
use mathlib.Core.Path.{◌≡◌, refl, sym, subst}
use mathlib.Core.Logic.{◌⊎◌, inl, inr, ⊎_elim, ⊎_map}
use mathlib.Core.List.{List}
use lib.ListN.{length, get_or}
use lib.Bits.{bit_or, and_le_r, or_shifted}
use Rattle.terms.specs.Term.{Term, Occ, All}
use Rattle.terms.specs.Mask.{Has}
use Rattle.terms.proofs.Substs.{all_occ, occ_all}
use Rattle.terms.proofs.Masks.{has_none, has_or, inside_and, marks_for}
use Rattle.marks.specs.Pass.{Known, Marked, Pass}
use Rattle.marks.specs.Modes.{modes, Together, KeptTo}
use Rattle.marks.specs.Passing.{VariablesOf}
use Rattle.marks.proofs.Passing.{pass_unique}
use Rattle.program.specs.Program.{Nth, Clause, Program}
use Rattle.program.specs.Shapes.{shapes}
use Rattle.program.specs.Limits.{max_shapes}
use Rattle.program.proofs.ShapeLaws.{nth_same}
use Rattle.rows.specs.Rows.{slot_at, mask_at, keys_of, key_of}
use Rattle.rows.proofs.Keys.{key_listed}
use Rattle.table.specs.Rules.{Row, call, solution, solves}
use Rattle.table.specs.NewRows.{New}
use Rattle.table.specs.Keys.{row_key, row_at, Regular, regular_call}
use Rattle.table.proofs.Keys.{call_at}
use Rattle.table.proofs.NewRows.{new_reached}
use Rattle.steps.specs.Steps.{RowsIn, Given}
use Rattle.steps.specs.Situation.{Chains}
use Rattle.steps.specs.Heads.{HeadMark}
use Rattle.solving.specs.Solving.{ToShape, PassesTo, SolvedBy}
use Rattle.solving.specs.SolvedSets.{passed_mark}
use Rattle.steps.proofs.SlotRows.{at_slot, in_slot}
use Rattle.steps.proofs.ShapeLinks.{shape_below}

-- "which keeps the call's own marks": what passes to an atom with marks of its own is what passes to it with none, together with them
pub pass_own : {A B : Term} {M R₀ : ℕ} (N R : ℕ) → Pass A M B 0 R₀ → Together N R₀ R → Pass A M B N R
pass_own {A} {B} {M} {R₀} N R passed together =
    record {
      α = passed.α;
      β = passed.β;
      unifier = passed.unifier;
      result = marks_for {P = λ v. Has N v ⊎ Has R₀ v} R (λ y. (⊎_elim inl (out y), ⊎_map (λ h. h) (λ k. (passed.result y).1 (inr k)))) together;
    }
  where
    out : (y : ℕ) → Has R₀ y → Marked A M B N passed.α passed.β y
    out y h = ⊎_elim (λ z. absurd (has_none y z)) inr ((passed.result y).0 h)

-- marks pass from an atom's variables alone, so that marks kept to these pass the same
pub pass_kept : {A B : Term} {N R : ℕ} (M q : ℕ) → KeptTo (λ v. Occ v A) M q → Pass A q B N R → Pass A M B N R
pass_kept {A} {B} {N} {R} M q kept passed =
    record {
      α = passed.α;
      β = passed.β;
      unifier = passed.unifier;
      result = marks_for R (λ y. (⊎_map (λ h. h) (λ k. (k.0, known_all q M (λ z. more z) y k.1)), ⊎_map (λ h. h) (λ k. (k.0, known_all M q (λ z. fewer z) y k.1)))) passed.result;
    }
  where
    more : (z : ℕ) → Known A q passed.α z → Known A M passed.α z
    more z k = (k.0, k.1, ((kept k.0).0 k.2).1, k.3)

    fewer : (z : ℕ) → Known A M passed.α z → Known A q passed.α z
    fewer z k = (k.0, k.1, (kept k.0).1 (k.1, k.2), k.3)

    known_all : (M M' : ℕ) → ((z : ℕ) → Known A M passed.α z → Known A M' passed.α z) → (y : ℕ)
        → All (Known A M passed.α) (passed.β y) → All (Known A M' passed.α) (passed.β y)
    known_all M M' same y a =
        occ_all (Known A M' passed.α) (passed.β y) (λ z o. same z (all_occ (Known A M passed.α) (passed.β y) a z o))

-- a call row that is not among the first `from` rows stands behind them
pub late_row : (p : Program) (table : List ℕ) (from old r s C : ℕ) → slot_at table r ≡ s → mask_at table r ≡ C
    → New modes p (RowsIn p (keys_of table from)) (RowsIn p (keys_of table old)) (call s C) → from ≤ r
late_row p table from old r s C e m (there, new) = at (dec_lt r from)
  where
    at : Dec (r < from) → from ≤ r
    at (yes b) = absurd (new (there.0, rw (e, m) at (key_listed table from r b)))
    at (no b) = omega arith

-- where the newest call row of shape s is one of the first `from` rows, there is no later one
pub none_late : (p : Program) (table heads : List ℕ) (since old from s C : ℕ) → Chains p table heads since old → s < max_shapes → get_or heads s 0 ≤ from
    → New modes p (RowsIn p (keys_of table from)) (RowsIn p (keys_of table old)) (call s C) → ⊥
none_late p table heads since old from s C chains few l new =
    let (r, b, e, m) = in_slot p table heads since old chains old (call s C) (omega arith) new.0 in
    let late : from ≤ r = late_row p table from old r s C e m new in
    (chains.by_slot.from_heads s (rw chains.all_heads (omega arith))).last r (omega arith) b e

-- a mask of variables among those of another is at most that
pub mask_within : {S : Term} {here : ℕ} (N : ℕ) → VariablesOf S here → ((v : ℕ) → Has N v → Occ v S) → N ≤ here
mask_within {here = here} N all of =
    rw (sym ((inside_and N here).1 (λ v h. (all.marked v).1 (of v h)))) (and_le_r N here)

-- the mark of variable 15 beside marks that have it not
pub passed_bit : (mask : ℕ) → mask < passed_mark → bit_or passed_mark mask ≡ passed_mark + mask
passed_bit mask l = or_shifted 1 15 mask l

-- a call row's marks are of its shape's variables
pub call_variables : {p : Program} {s M : ℕ} {S : Term} → Nth (shapes p) s S → Regular p (call s M) → (v : ℕ) → Has M v → Occ v S
call_variables nth (regular_call nth' of small) v h = subst (λ (T : Term). Occ v T) (nth_same nth' nth) (of v h)

module _ {table : List ℕ} {since old newest slot : ℕ} (w : ToShape table since old newest slot) where
  pub to_shape_below : w.s < max_shapes
  to_shape_below = shape_below w.setting w.nth_shape

  -- a row of the shape's call slot is a call row of it
  pub call_there : (r : ℕ) → r < old → slot_at table r ≡ w.s → RowsIn w.p (keys_of table old) (call w.s (mask_at table r))
  call_there r h e =
      let there = at_slot w.p table w.heads since old w.chains old r (omega arith) h in
      let is : row_at w.p (slot_at table r) (mask_at table r) ≡ call w.s (mask_at table r) =
      rw e (call_at w.p w.s (mask_at table r) (omega (arith, to_shape_below))) in
      subst (RowsIn w.p (keys_of table old)) is there

  pub solution_key : (R : ℕ) → key_of slot R ≡ row_key w.p (solution w.s R)
  solution_key R = rw w.slot_is refl

  module _ (mask q : ℕ) (passes : PassesTo w mask q) where
    abbrev head : HeadMark w.p table 0 old w.k (length w.c.body) q
    head = passes.marks

    -- what passes to a call row with marks C of its own
    pub passes_own : (C R : ℕ) → Together C mask R → Pass w.c.head q w.S C R
    passes_own C R together = pass_own C R passes.passed together

    -- so the row is given by rule 3
    pub solution_given : (C R : ℕ) → RowsIn w.p (keys_of table old) (call w.s C) → Together C mask R → Given w.p (keys_of table old) (key_of slot R)
    solution_given C R there together =
        let reached = new_reached modes w.p (RowsIn w.p (keys_of table 0)) (RowsIn w.p (keys_of table old)) w.k (length w.c.body) head.N head.reached in
        let same = nth_same head.nth_clause w.nth_clause in
        let kept : KeptTo (λ v. Occ v w.c.head) head.N q = subst (λ (c : Clause). KeptTo (λ v. Occ v c.head) head.N q) same head.kept in (
          solution w.s R,
          solves w.nth_clause reached w.nth_shape there (pass_kept head.N q kept (passes_own C R together)),
          solution_key R,
        )

    -- what passes is of the shape's variables
    pub passes_variables : (v : ℕ) → Has mask v → Occ v w.S
    passes_variables v h = ⊎_elim (λ z. absurd (has_none v z)) (λ k. k.0) ((passes.passed.result v).0 h)

    -- and so is what it gives with the marks of a call row
    pub both_variables : (C R : ℕ) → RowsIn w.p (keys_of table old) (call w.s C) → Together C mask R → (v : ℕ) → Has R v → Occ v w.S
    both_variables C R there together v h = ⊎_elim (call_variables w.nth_shape there.0 v) (passes_variables v) ((together v).0 h)

    -- marks that pass the same to the shape give the same rows
    pub solved_alike : (q' from : ℕ) (row : Row ℕ) → PassesTo w mask q' → SolvedBy w from q row → SolvedBy w from q' row
    solved_alike q' from row passes' by =
        let own : Together by.C mask (bit_or by.C mask) = has_or by.C mask in
        let same : bit_or by.C mask ≡ by.R = pass_unique (passes_own by.C (bit_or by.C mask) own) by.passed in
        record {
          C = by.C;
          there = by.there;
          R = by.R;
          passed = pass_own by.C by.R passes'.passed (subst (λ (R : ℕ). Together by.C mask R) same own);
          is = by.is;
        }
