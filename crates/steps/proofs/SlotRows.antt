-- Rows of the program and rows of the table: each row that is there has its place in the table, by slot and mask, and is new from `since` on.
use Prim.Native.Nat.{ℕ, ◌+◌, ◌*◌, ◌≤◌, ◌<◌}
use native.Mathlib.Omega.{arith}
use mathlib.Core.Path.{◌≡◌, refl, sym, ap, subst, ◌∙◌}
use mathlib.Core.List.{List}
use lib.ListN.{length}
use Rattle.program.specs.Program.{Program}
use Rattle.program.specs.Limits.{row_size}
use Rattle.rows.specs.Rows.{slot_at, mask_at, before_at, key_at, keys_of}
use Rattle.rows.specs.Store.{SameRows}
use Rattle.rows.proofs.Keys.{key_slot, key_mask, key_listed, listed_key}
use Rattle.rows.proofs.Chaining.{chained_same}
use Rattle.rows.proofs.Adding.{same_slot, same_mask, same_key}
use Rattle.table.specs.Rules.{Row}
use Rattle.table.specs.Table.{mask}
use Rattle.table.specs.Keys.{slot_of, row_key, row_at, row_of}
use Rattle.table.proofs.Keys.{mask_small}
use Rattle.table.proofs.Keys as keys
use Rattle.steps.specs.Steps.{RowsIn}
use Rattle.steps.specs.Situation.{Chains}

module _ (p : Program) (table heads : List ℕ) (since rows : ℕ) (C : Chains p table heads since rows) where
  row_is : (r : ℕ) → r < rows → row_of p (key_at table r) ≡ row_at p (slot_at table r) (mask_at table r)
  row_is r h =
      rw (keys.key_slot (slot_at table r) (mask_at table r) (C.masks_below r h), keys.key_mask (slot_at table r) (mask_at table r) (C.masks_below r h)) refl

  -- a row of the table is a row that is there
  pub at_slot : (n r : ℕ) → n ≤ rows → r < n → RowsIn p (keys_of table n) (row_at p (slot_at table r) (mask_at table r))
  at_slot n r l h =
      let g = C.regular r (omega arith) in
      subst (RowsIn p (keys_of table n)) (row_is r (omega arith)) (g.0, rw g.1 (key_listed table n r h))

  -- a row that is there is a row of the table
  pub in_slot : (n : ℕ) (row : Row ℕ) → n ≤ rows → RowsIn p (keys_of table n) row
      → (r : ℕ) × (r < n) × (slot_at table r ≡ slot_of p row) × (mask_at table r ≡ mask row)
  in_slot n row l h =
      let (r, k, e) = listed_key table n (row_key p row) h.1 in (
        r,
        k,
        key_slot (slot_at table r) (mask_at table r) (slot_of p row) (mask row) (C.masks_below r (omega arith)) (mask_small p h.0) e,
        key_mask (slot_at table r) (mask_at table r) (slot_of p row) (mask row) (C.masks_below r (omega arith)) (mask_small p h.0) e,
      )

  -- a row of the table is in the older set exactly when it stands before `since`
  pub older_row : (r : ℕ) → r < rows → RowsIn p (keys_of table since) (row_at p (slot_at table r) (mask_at table r)) → r < since
  older_row r h o =
      let (q, k, e) = listed_key table since (row_key p (row_at p (slot_at table r) (mask_at table r))) o.1 in
      let f : key_at table q ≡ key_at table r = e ∙ ap (row_key p) (sym (row_is r h)) ∙ (C.regular r h).1 in
      let g = C.distinct q r (omega (arith, C.new)) h f in
      omega arith

  -- the first rows stay, and so do the chains
  pub chains_stay : (table' : List ℕ) (n : ℕ) → rows ≤ n → SameRows table table' n → length table' ≡ length table → Chains p table' heads since rows
  chains_stay table' n l s e =
      record {
        by_slot =
            chained_same (slot_at table) (slot_at table') (before_at table) (before_at table') heads rows
            (λ r h. same_slot table table' n s r (omega arith)) (λ r h. s (row_size * r + 3) (omega arith)) C.by_slot;
        all_heads = C.all_heads;
        new = C.new;
        most = C.most;
        fits = rw e C.fits;
        masks_below = λ r h. rw (same_mask table table' n s r (omega arith)) (C.masks_below r h);
        distinct = λ r q h k f.
            C.distinct r q h k (sym (same_key table table' n s r (omega arith)) ∙ f ∙ same_key table table' n s q (omega arith));
        regular = λ r h. rw (same_key table table' n s r (omega arith)) (C.regular r h);
      }
