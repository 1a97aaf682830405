-- The rows for a body atom: a cont row and a call row with marks that the rules reach, one after the other.
use Prim.Native.Nat.{ℕ, zero, suc, ◌+◌, ◌≤◌, ◌<◌}
use native.Mathlib.Omega.{arith}
use mathlib.Core.Path.{◌≡◌, refl, ap, ◌∙◌}
use mathlib.Core.Logic.{◌⊎◌, inl, inr, ⊎_elim}
use mathlib.Core.List.{List}
use lib.ListN.{length, get_or}
use Rattle.terms.specs.Cells.{variables}
use Rattle.terms.specs.Mask.{Has}
use Rattle.terms.proofs.RunVariables.{atom_variables}
use Rattle.marks.specs.Modes.{modes, KeptTo, Renumbered, Reordered}
use Rattle.marks.proofs.RowMasks.{kept_by_list, reordered_renumbered}
use Rattle.program.specs.Program.{Program}
use Rattle.program.specs.Shapes.{shape_number, number, Listed}
use Rattle.program.specs.Limits.{max_bodies}
use Rattle.program.proofs.ShapeLaws.{body_shape_law}
use Rattle.program.proofs.Nths.{nth_below}
use Rattle.directory.specs.Layout.{body_list, body_shape, dir_words}
use Rattle.directory.specs.Directory.{BodyAt}
use Rattle.rows.specs.Rows.{slots}
use Rattle.rows.specs.Store.{Added}
use Rattle.rows.proofs.AddedRows.{added_store}
use Rattle.table.specs.Rules.{Row, call, cont, Reached, calls, conts}
use Rattle.table.specs.Steps.{GoesOn, goes_call, goes_cont}
use Rattle.table.specs.Keys.{first_cont, body_index, row_key}
use Rattle.table.specs.RoundKeys.{Keyed}
use Rattle.table.proofs.ShapeVariables.{number_below}
use Rattle.table.proofs.Steps.{goes_two}
use Rattle.steps.specs.Situation.{Place}
use Rattle.steps.specs.Steps.{Given, RowsIn, Writable, Stepped, Emitted, emitted_call, emitted_cont}
use Rattle.steps.proofs.Bodies.{body_there, body_few, body_is_atom}
use Rattle.steps.proofs.Stepping.{added_stepped, stepped_then, stepped_must, stepped_within, stepped_past, overfull_stepped}

-- where a row was added there is still a store to write behind
pub added_writable : (table buckets : List ℕ) (n room round slot mask r : ℕ) (table' buckets' : List ℕ) → Writable table buckets n room
    → Added table buckets n room round slot mask r table' buckets' → length table' ≡ length table → r ≤ room → Writable table' buckets' r room
added_writable table buckets n room round slot mask r table' buckets' w added l within =
    record {
      store = added_store table buckets n room round slot mask r table' buckets' added w.store within;
      within = within;
      room_most = w.room_most;
      room_there = rw l w.room_there;
    }

-- what marks go on to is what is emitted for them
pub emitted_goes : {p : Program} {k i N : ℕ} {row : Row ℕ} → Emitted p k i N row → GoesOn modes p k i N row
emitted_goes (emitted_call hc hA numbered) = goes_call hc hA numbered
emitted_goes (emitted_cont hc hA kept) = goes_cont hc hA kept

pub goes_emitted : {p : Program} {k i N : ℕ} {row : Row ℕ} → GoesOn modes p k i N row → Emitted p k i N row
goes_emitted (goes_call hc hA numbered) = emitted_call hc hA numbered
goes_emitted (goes_cont hc hA kept) = emitted_cont hc hA kept

module _ {dir order : List ℕ} {count j : ℕ} (w : Place dir order count j) where
  pub place_there : BodyAt w.words w.p dir w.c w.i w.A j
  place_there = rw w.is (body_there w.setting w.nth_clause w.nth_atom)

  pub place_few : (j < max_bodies) × (length dir ≡ dir_words)
  place_few = (rw w.is (body_few w.setting w.nth_clause w.nth_atom), w.setting.directory.size)

  -- the variables in the list are at most 15, and at most 16
  pub order_small : (count ≤ variables) × ((x : ℕ) → x < count → get_or order x 0 < variables)
  order_small = (few count (λ x l. l), λ x l. (small x l).0)
    where
      small : (x : ℕ) → x < count → (get_or order x 0 < variables) × (x < variables)
      small x l =
          let (o, e) = w.in_order.present x l in
          let below = atom_variables (body_is_atom w.setting w.nth_clause w.nth_atom) in
          (below (get_or order x 0) o, rw e at (number_below w.A variables below (get_or order x 0) o))

      few : (n : ℕ) → ((x : ℕ) → x < n → x < count) → n ≤ variables
      few zero h = omega arith
      few (suc n) h = let l = (small n (h n (omega arith))).1 in omega arith

  pub place_shape : get_or dir (body_shape + j) 0 < slots
  place_shape =
      let d = w.setting.directory in
      rw place_there.shape (omega (arith, nth_below (body_shape_law w.p w.nth_clause w.nth_atom), d.shape_count_law, d.shapes_most))

  module _ (table buckets ks : List ℕ) (round room n mask listed : ℕ)
      (kept : KeptTo (Has (get_or dir (body_list + j) 0)) mask listed)
      (reached : Reached modes w.p (RowsIn w.p ks) w.k w.i mask)
      (writable : Writable table buckets n room) where
    kept_listed : KeptTo (Listed w.c w.i) mask listed
    kept_listed = kept_by_list (get_or dir (body_list + j) 0) mask listed place_there.list kept

    abbrev ContKey : ℕ → Type 0
    ContKey key = key ≡ row_key w.p (cont (suc w.k) (suc w.i) listed)

    -- the cont row
    pub cont_stepped : (slot r : ℕ) (table' buckets' : List ℕ) → slot ≡ first_cont + j → Added table buckets n room round slot listed r table' buckets'
        → length table' ≡ length table → Stepped (Given w.p ks) round room n table buckets ContKey r table' buckets'
    cont_stepped slot r table' buckets' e added l =
        let same : slot ≡ first_cont + body_index w.p w.k w.i = e ∙ ap (λ (x : ℕ). first_cont + x) w.is in
        added_stepped (Given w.p ks) round room n (first_cont + body_index w.p w.k w.i) listed r table buckets table' buckets' writable
        (cont (suc w.k) (suc w.i) listed, conts reached w.nth_clause w.nth_atom kept_listed, refl)
        (rw same at added) l

    -- no room for it, and so none for both
    pub emitted_full : (r : ℕ) (table' buckets' : List ℕ) → Stepped (Given w.p ks) round room n table buckets ContKey r table' buckets' → room < r
        → Stepped (Given w.p ks) round room n table buckets (Keyed w.p (Emitted w.p w.k w.i mask)) r table' buckets'
    emitted_full r table' buckets' s l =
        overfull_stepped (Given w.p ks) round room n r table buckets table' buckets' _ (stepped_past (Given w.p ks) round room n r table buckets table' buckets' ContKey s l)

    module _ (renumbered : ℕ) (reordered : Reordered order count mask renumbered) where
      numbered : Renumbered w.A (number w.A) mask renumbered
      numbered = reordered_renumbered order count mask renumbered w.in_order reordered

      abbrev CallKey : ℕ → Type 0
      CallKey key = key ≡ row_key w.p (call (shape_number w.p w.A) renumbered)

      -- and then the call row
      pub emitted_both : (next r shape : ℕ) (table' buckets' table'' buckets'' : List ℕ) → Stepped (Given w.p ks) round room n table buckets ContKey next table' buckets'
          → next ≤ room → shape ≡ get_or dir (body_shape + j) 0 → Added table' buckets' next room round shape renumbered r table'' buckets'' → length table'' ≡ length table'
          → Stepped (Given w.p ks) round room n table buckets (Keyed w.p (Emitted w.p w.k w.i mask)) r table'' buckets''
      emitted_both next r shape table' buckets' table'' buckets'' s within e added l =
          let g = stepped_within (Given w.p ks) round room n next table buckets table' buckets' ContKey s within in
          let called = added_stepped (Given w.p ks) round room next (shape_number w.p w.A) renumbered r table' buckets' table'' buckets'' g.writable
          (call (shape_number w.p w.A) renumbered, calls reached w.nth_clause w.nth_atom numbered, refl)
          (rw (e, place_there.shape) at added) l in
          stepped_must (Given w.p ks) round room n r table buckets table'' buckets'' (λ key. ContKey key ⊎ CallKey key) _ all
          (stepped_then (Given w.p ks) round room n next r table buckets table' buckets' table'' buckets'' ContKey CallKey g called)
        where
          all : (key : ℕ) → Keyed w.p (Emitted w.p w.k w.i mask) key → ContKey key ⊎ CallKey key
          all key (row, given, e) =
              ⊎_elim inr inl
              ((goes_two w.p w.nth_clause w.nth_atom mask renumbered listed numbered kept_listed key).0 (row, emitted_goes given, e))
