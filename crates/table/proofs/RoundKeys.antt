-- The keys of a round: a round's keys and what it looks at are the next round's, a round that adds nothing is the last, and a full room is exceeded.
use Prim.Native.Nat.{ℕ, suc}
use native.Mathlib.Omega.{arith}
use mathlib.Core.Path.{◌≡◌, refl, sym, ap, ◌∙◌}
use mathlib.Core.Logic.{inl, inr, ⊎_elim}
use mathlib.Core.List.{List, [], ◌∷◌, map, Memᴰ}
use lib.ListN.{length-map}
use Rattle.marks.specs.Modes.{modes}
use Rattle.program.specs.Program.{Program}
use Rattle.program.specs.Faults.{sound, faults}
use Rattle.program.proofs.ProgramWords.{sound_within}
use Rattle.table.specs.Rules.{Row, call}
use Rattle.table.specs.Rounds.{At, First}
use Rattle.table.specs.Table.{MoreThan}
use Rattle.table.specs.Keys.{row_key, row_of, Few}
use Rattle.table.specs.Added.{Behind, Plus, Full}
use Rattle.table.specs.NewRows.{Earlier, NewGives}
use Rattle.table.specs.RoundKeys.{Keyed, RoundKeys, Looked}
use Rattle.table.proofs.Lists.{has_map}
use Rattle.table.proofs.Distinct.{distinct_map}
use Rattle.table.proofs.RulesOf.{Within}
use Rattle.table.proofs.RoundLaws.{rounds_grow}
use Rattle.table.proofs.ComputedLaws.{at_decided}
use Rattle.table.proofs.ModesComputed.{modes_lists}
use Rattle.table.proofs.ShapeVariables.{within_few}
use Rattle.table.proofs.Regular.{at_regular}
use Rattle.table.proofs.Keys.{row_of_key, key_injective}
use Rattle.table.proofs.Added.{behind_has, plus_has, plus_distinct, full_distinct}
use Rattle.table.proofs.NewRows.{new_gives, round_split}

module _ (p : Program) where
  -- "Round 0 has one row, the goal's call."
  pub round_zero : RoundKeys p 0 (row_key p (call 0 p.grounded) ∷ [])
  round_zero = record {
    distinct = (mathlib.Core.List.Memᴰ.not-nil, tt);
    each = λ key. (λ m. (call 0 p.grounded, refl, mathlib.Core.List.Memᴰ.eq_of_singleton m), λ (row, r, e). mathlib.Core.List.Memᴰ.head (e ∙ ap (row_key p) r));
  }

  -- the goal's call is a row, so that room for none is exceeded
  pub goal_more : MoreThan p 0
  goal_more = record {
    rows = call 0 p.grounded ∷ [];
    distinct = (mathlib.Core.List.Memᴰ.not-nil, tt);
    appear = λ row m. (0, mathlib.Core.List.Memᴰ.eq_of_singleton m);
    more = omega arith;
  }

  -- what a round looks at is in the next
  pub looked_at : (k : ℕ) (row : Row ℕ) → NewGives modes p (Earlier modes p p.grounded k) (At modes p p.grounded k) row → At modes p p.grounded (suc k) row
  looked_at k row g = inr (new_gives modes p (Earlier modes p p.grounded k) (At modes p p.grounded k) row g)

  -- all that is kept after a round's steps is in the next, also where the room was full
  pub behind_keyed : (k : ℕ) {ks ks' : List ℕ} → RoundKeys p k ks → (b : Behind ks (Looked p k) ks') → (key : ℕ) → Memᴰ key ks' → Keyed p (At modes p p.grounded (suc k)) key
  behind_keyed k {ks} {ks'} kept b key m = ⊎_elim
      (λ (m' : Memᴰ key ks). let (row, r, e) = (kept.each key).0 m' in (row, inl r, e))
      (λ (m' : Memᴰ key b.new). let (row, g, e) = b.of key m' in (row, looked_at k row g, e))
      (behind_has ks (Looked p k) ks' b key m)

  -- "Round k+1 adds all that the rules give from the rows so far."
  pub round_next : (k : ℕ) {ks ks' : List ℕ} → RoundKeys p k ks → Plus ks (Looked p k) ks' → RoundKeys p (suc k) ks'
  round_next k {ks} {ks'} kept plus = record { distinct = plus_distinct kept.distinct plus; each = λ key. (behind_keyed k kept plus.behind key, from key) }
    where
      from : (key : ℕ) → Keyed p (At modes p p.grounded (suc k)) key → Memᴰ key ks'
      from key (row, r, e) = (plus_has plus key).1
          (⊎_elim (λ r'. inl ((kept.each key).1 (row, r', e))) (λ g. inr (row, g, e))
          ((round_split modes p p.grounded (at_decided modes modes_lists p p.grounded) k row).0 r))

  -- what a round adds appears in it first
  pub new_first_round : (k : ℕ) {ks ks' : List ℕ} → RoundKeys p k ks → (b : Behind ks (Looked p k) ks') → (key : ℕ) → Memᴰ key b.new → Keyed p (First modes p p.grounded (suc k)) key
  new_first_round k {ks} {ks'} kept b key m =
      let (row, g, e) = b.of key m in
      (row, (looked_at k row g, λ j l r. b.apart key m ((kept.each key).1 (row, rounds_grow modes p p.grounded k j (omega arith) row r, e))), e)

module _ (words : List ℕ) (p : Program) (accepted : faults words ≡ sound p) where
  few : Few p
  few = within_few p (sound_within words p accepted)

  -- a row is in a round where its key is kept for the round
  pub keyed_at : (j k : ℕ) (row : Row ℕ) → At modes p p.grounded j row → Keyed p (At modes p p.grounded k) (row_key p row) → At modes p p.grounded k row
  keyed_at j k row r (row', r', e) = rw (key_injective p few (at_regular words p accepted j row r) (at_regular words p accepted k row' r') e) r'

  -- a round that adds nothing is the last
  pub stop_keys : (k : ℕ) {ks : List ℕ} → RoundKeys p k ks → Plus ks (Looked p k) ks → Within (At modes p p.grounded (suc k)) (At modes p p.grounded k)
  stop_keys k {ks} kept plus row r =
      keyed_at (suc k) k row r ((kept.each (row_key p row)).0 (((round_next p k kept plus).each (row_key p row)).1 (row, r, refl)))

  -- a row is read back from its key
  pub keyed_row : (T : Row ℕ → Type 0) (k key : ℕ) → Within T (At modes p p.grounded k) → Keyed p T key → T (row_of p key) × (row_key p (row_of p key) ≡ key)
  keyed_row T k key within (row, r, e) =
      let back : row_of p key ≡ row = ap (row_of p) e ∙ row_of_key p few (at_regular words p accepted k row (within row r)) in
      (rw back r, rw back (sym e))

  -- a full room is exceeded
  pub full_more : (k : ℕ) {ks ks' : List ℕ} {room : ℕ} → RoundKeys p k ks → Full ks (Looked p k) room ks' → MoreThan p room
  full_more k {ks} {ks'} {room} kept full = record {
    rows = map (row_of p) (full.left ∷ ks');
    distinct = distinct_map (row_of p) (full.left ∷ ks') (full_distinct kept.distinct full) (λ a b m n e. sym (each a m).1 ∙ (ap (row_key p) e ∙ (each b n).1));
    appear = λ row m. let (key, m', e) = has_map (row_of p) (full.left ∷ ks') m in (suc k, rw e (each key m').0);
    more = rw length-map (omega (arith, full.at_room));
  }
    where
      left : Keyed p (At modes p p.grounded (suc k)) full.left
      left = let (row, g, e) = full.left_of in (row, looked_at p k row g, e)

      each : (key : ℕ) → Memᴰ key (full.left ∷ ks') → At modes p p.grounded (suc k) (row_of p key) × (row_key p (row_of p key) ≡ key)
      each key m = keyed_row (At modes p p.grounded (suc k)) (suc k) key (λ _ r. r) (⊎_elim
          (λ (e : key ≡ full.left). rw e left)
          (λ (m' : Memᴰ key ks'). behind_keyed p k kept full.behind key m')
          (mathlib.Core.List.Memᴰ.cases_cons m))
