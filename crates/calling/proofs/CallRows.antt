-- The call rows of a shape, newest first, to the head of a clause: the marks of no row, of one row more, of all new rows.
use Prim.Native.Nat.{ℕ, suc, ◌+◌, ◌*◌, ◌≤◌, ◌<◌}
use native.Mathlib.Omega.{arith}
use native.Mathlib.Decide.{dec_lt, ℕ_discrete}
use mathlib.Core.Path.{◌≡◌, sym, subst, ◌∙◌}
use mathlib.Core.Logic.{◌⊎◌, inl, inr, ⊎_elim, ◌↔◌}
use mathlib.Core.List.{List}
use lib.ListN.{length}
use Rattle.terms.specs.Mask.{Marks}
use Rattle.marks.specs.Modes.{modes}
use Rattle.marks.specs.Pass.{Pass}
use Rattle.marks.specs.Passing.{MarkedIn}
use Rattle.marks.proofs.PassedOn.{first_to_second}
use Rattle.program.specs.Program.{Program}
use Rattle.program.specs.Limits.{row_size}
use Rattle.program.proofs.Nths.{nth_below}
use Rattle.rows.specs.Rows.{slot_at, mask_at, before_at, keys_of}
use Rattle.rows.specs.Chains.{Latest}
use Rattle.table.specs.Rules.{call, Reached, first}
use Rattle.table.specs.Steps.{Opens}
use Rattle.table.specs.NewRows.{New}
use Rattle.table.specs.Keys.{first_cont, row_at}
use Rattle.table.proofs.Keys.{call_at}
use Rattle.table.proofs.Steps.{opens_one}
use Rattle.steps.specs.Steps.{RowsIn}
use Rattle.steps.specs.Situation.{Chains}
use Rattle.calling.specs.Calls.{OpenedBy, OpenedFrom, CallsOf}
use Rattle.steps.proofs.SlotRows.{at_slot, in_slot, older_row}

-- the rows of a shape's slot are its call rows, and the new ones stand from `since` on
module _ (p : Program) (table heads : List ℕ) (since rows : ℕ) (C : Chains p table heads since rows) (s : ℕ) (small : s < first_cont) where
  slot_row : (r : ℕ) → slot_at table r ≡ s → row_at p (slot_at table r) (mask_at table r) ≡ call s (mask_at table r)
  slot_row r e = rw e (call_at p s (mask_at table r) small)

  pub call_row : (n r : ℕ) → n ≤ rows → r < n → slot_at table r ≡ s → RowsIn p (keys_of table n) (call s (mask_at table r))
  call_row n r l m e = subst (RowsIn p (keys_of table n)) (slot_row r e) (at_slot p table heads since rows C n r l m)

  pub row_new : (r : ℕ) → since ≤ r → r < rows → slot_at table r ≡ s
      → New modes p (RowsIn p (keys_of table since)) (RowsIn p (keys_of table rows)) (call s (mask_at table r))
  row_new r new h e = (call_row rows r (omega arith) h e, λ old. let m = older_row p table heads since rows C r h (rw (slot_row r e) old) in omega arith)

  pub new_row : (M : ℕ) → New modes p (RowsIn p (keys_of table since)) (RowsIn p (keys_of table rows)) (call s M)
      → (r : ℕ) × (since ≤ r) × (r < rows) × (slot_at table r ≡ s) × (mask_at table r ≡ M)
  new_row M (row, new) = by (in_slot p table heads since rows C rows (call s M) (omega arith) row)
    where
      by : (r : ℕ) × (r < rows) × (slot_at table r ≡ s) × (mask_at table r ≡ M)
          → (r : ℕ) × (since ≤ r) × (r < rows) × (slot_at table r ≡ s) × (mask_at table r ≡ M)
      by (r, h, e, i) = at (dec_lt r since)
        where
          at : Dec (r < since) → (r : ℕ) × (since ≤ r) × (r < rows) × (slot_at table r ≡ s) × (mask_at table r ≡ M)
          at (yes old) = absurd (new (subst (λ (x : ℕ). RowsIn p (keys_of table since) (call s x)) i (call_row since r C.new old e)))
          at (no o) = (r, omega arith, h, e, i)

module _ {p : Program} {table sets : List ℕ} {newest here there since rows k : ℕ} (a : CallsOf p table sets newest here there since rows k) where
  abbrev s : ℕ
  s = a.s

  slot_small : s < first_cont
  slot_small = omega (arith, nth_below a.nth_shape, a.few.shapes_few)

  -- the newest row of the slot, and from each row the one before it
  pub calls_newest : Latest (slot_at table) s rows newest
  calls_newest =
      subst (λ (x : ℕ). Latest (slot_at table) s rows x) (sym a.newest_is)
      (a.chains.by_slot.from_heads s (rw a.chains.all_heads (omega (arith, slot_small))))

  pub call_before : (r : ℕ) → r < rows → Latest (slot_at table) (slot_at table r) r (before_at table r)
  call_before r l = a.chains.by_slot.from_rows r l

  pub row_there : (r : ℕ) → r < rows → row_size * r + 4 < length table
  row_there r l = omega (arith, a.chains.fits)

  -- the marks that a row passes
  pub call_passes : (r q : ℕ) → Marks (MarkedIn sets 0 (mask_at table r) here 16 0 there) q → Pass a.S (mask_at table r) a.c.head 0 q
  call_passes r q m =
      first_to_second (mask_at table r) 0 q a.unifying.most_general a.unifying.sets_right a.shape_variables a.head_variables m

  pub call_reached : (r q : ℕ) → r < rows → slot_at table r ≡ s → Marks (MarkedIn sets 0 (mask_at table r) here 16 0 there) q
      → Reached modes p (RowsIn p (keys_of table rows)) k 0 q
  call_reached r q l e m = first a.nth_clause a.nth_shape (call_row p table a.heads since rows a.chains s slot_small rows r (omega arith) l e) (call_passes r q m)

  -- behind the newest row there is none
  pub opened_none : (N : ℕ) → OpenedFrom p table since rows k s newest N → ⊥
  opened_none N (r, l, new, h, e, o) = calls_newest.last r l h e

  -- one row more
  pub opened_next : (link row next q : ℕ) → suc row ≡ link → since ≤ row → row < rows → slot_at table row ≡ s → next ≡ before_at table row
      → Marks (MarkedIn sets 0 (mask_at table row) here 16 0 there) q
      → (N : ℕ) → OpenedFrom p table since rows k s next N ↔ (OpenedFrom p table since rows k s link N ⊎ (N ≡ q))
  opened_next link row next q at new h own b m N = (to, ⊎_elim from same)
    where
      older : Latest (slot_at table) (slot_at table row) row next
      older = rw b (call_before row h)

      to : OpenedFrom p table since rows k s next N → OpenedFrom p table since rows k s link N ⊎ (N ≡ q)
      to (r, l, new', h', e, o) = by (dec_lt row r) (ℕ_discrete r row)
        where
          by : Dec (row < r) → Dec (r ≡ row) → OpenedFrom p table since rows k s link N ⊎ (N ≡ q)
          by (yes behind) d = inl (r, omega arith, new', h', e, o)
          by (no o') (yes i) =
              inr ((opens_one p a.nth_clause a.nth_shape (call_passes row q m) N).0 (subst (λ (x : ℕ). Opens modes p k s (mask_at table x) N) i o))
          by (no o') (no d) = absurd (older.last r l (omega arith) (e ∙ sym own))

      from : OpenedFrom p table since rows k s link N → OpenedFrom p table since rows k s next N
      from (r, l, new', h', e, o) = (r, omega (arith, older.within), new', h', e, o)

      same : N ≡ q → OpenedFrom p table since rows k s next N
      same i = (row, older.within, new, h, own, (opens_one p a.nth_clause a.nth_shape (call_passes row q m) N).1 i)

  -- a walk down to the rows of earlier rounds has met all new rows
  pub opened_all : (link : ℕ) → link ≤ since → (N : ℕ) → OpenedFrom p table since rows k s link N ↔ OpenedBy p table since rows k s N
  opened_all link l N = (to, from)
    where
      to : OpenedFrom p table since rows k s link N → OpenedBy p table since rows k s N
      to (r, _, new, h, e, o) = (mask_at table r, row_new p table a.heads since rows a.chains s slot_small r new h e, o)

      from : OpenedBy p table since rows k s N → OpenedFrom p table since rows k s link N
      from (M, new, o) =
          let (r, m, h, e, i) = new_row p table a.heads since rows a.chains s slot_small M new in
          (r, omega arith, m, h, e, rw i o)
