-- The head of a clause in a round: kept marks with call rows that are not known, new marks with all call rows, and what kept marks gave before, are all that the clause ends in.
use Prim.Native.Nat.{ℕ, ◌+◌, ◌*◌, ◌^◌, ◌≤◌, ◌<◌}
use native.Mathlib.Omega.{arith}
use native.Mathlib.Decide.{ℕ_discrete}
use native.Mathlib.Nat.{le_refl}
use mathlib.Core.Path.{◌≡◌, refl}
use mathlib.Core.Logic.{◌⊎◌, inl, inr, ⊎_elim}
use mathlib.Core.List.Memᴰ
use mathlib.Core.List.{List, [], Memᴰ}
use lib.ListN.{length, get_or, set, replicate}
use Rattle.terms.specs.Term.{Term}
use Rattle.marks.specs.Pass.{Pass}
use Rattle.program.specs.Lists.{between}
use Rattle.program.specs.Program.{Nth, Clause, Program}
use Rattle.program.specs.Shapes.{shapes}
use Rattle.program.specs.Limits.{masks}
use Rattle.program.proofs.ShapeLaws.{member_decided}
use Rattle.directory.specs.Layout.{clause_vars}
use Rattle.directory.specs.Directory.{predicate_of}
use Rattle.rows.specs.Rows.{keys_of}
use Rattle.rows.specs.MaskSet.{set_words, InSet}
use Rattle.rows.specs.KeptSets.{masks_in, Gained, Unkept, things, known_of}
use Rattle.table.specs.Rules.{call, solution}
use Rattle.table.specs.Keys.{row_key}
use Rattle.table.specs.Steps.{on_head}
use Rattle.table.specs.NewRows.{new_on_head}
use Rattle.table.specs.RoundKeys.{Keyed}
use Rattle.steps.specs.Steps.{RowsIn}
use Rattle.steps.specs.Situation.{HeadAsked}
use Rattle.steps.specs.Since.{SinceIn}
use Rattle.steps.specs.Heads.{HeadMark, Collected, Solved, solved, FoundOn}
use Rattle.ends.specs.AtHead.{HeadGives}
use Rattle.ends.specs.Ends.{AtEnd, WithHead}
use Rattle.ends.specs.Keeping.{kept_vars, kept_set, GoneTo, KeepingMarks}
use Rattle.ends.proofs.HeadMarks.{EndsBy, keys_within, all_new, mark_below, found_result, found_holds, found_all, ends_solved, late_found}
use Rattle.ends.proofs.KeptMarks.{reached_known_or_new, reached_earlier, marks_stay, kept_or_new, gained_marked, marks_gained, in_part, few_masks, kept_holds}

-- known marks with new call rows, or other marks with all call rows
at_kept_end : (p : Program) (known ks₀ ks : List ℕ) → ((key : ℕ) → Memᴰ key known → Memᴰ key ks₀) → (k key : ℕ)
    → AtEnd p ks₀ ks k key → EndsBy p [] known ks₀ ks k key ⊎ EndsBy p known ks [] ks k key
at_kept_end p known ks₀ ks within k key (inl (row, (N, new_on_head {c = c} hc reached, s, C, called, ends), e)) =
    inr (row, (N, new_on_head hc (reached_earlier p known ks₀ ks within k (length c.body) N reached), s, C, (called, λ o. Memᴰ.not-nil o.1), ends), e)
at_kept_end p known ks₀ ks within k key (inr (row, (N, on_head hc reached, s, C, called, ends), e)) =
    ⊎_elim
    (λ r. inl (row, (N, new_on_head hc (all_new p (RowsIn p []) (RowsIn p known) (λ r o. Memᴰ.not-nil o.1) r), s, C, called, ends), e))
    (λ r. inr (row, (N, new_on_head hc r, s, C, (called.0, λ o. Memᴰ.not-nil o.1), ends), e))
    (reached_known_or_new p known ks reached)

-- a set whose marks have gone to the first `known` rows
module _ (p : Program) (table : List ℕ) (known rows k : ℕ) (kept ks : List ℕ) (gone : (q : ℕ) → InSet kept q → GoneTo p k q (keys_of table known) ks) where
  -- with a call row that is not known they are carried now, else they were
  gone_or_solved : (c : Clause) → Nth p.clauses k c → (q s C R : ℕ) (S : Term) → InSet kept q → Nth (shapes p) s S → RowsIn p (keys_of table rows) (call s C) → Pass c.head q S C R
      → Keyed p (Solved p (keys_of table known) (keys_of table rows) k kept) (row_key p (solution s R)) ⊎ Memᴰ (row_key p (solution s R)) ks
  gone_or_solved c hc q s C R S i hs called passed = at (member_decided ℕ_discrete (row_key p (call s C)) (keys_of table known))
    where
      at : Dec (Memᴰ (row_key p (call s C)) (keys_of table known))
          → Keyed p (Solved p (keys_of table known) (keys_of table rows) k kept) (row_key p (solution s R)) ⊎ Memᴰ (row_key p (solution s R)) ks
      at (yes m) = inr (gone q i c hc s C R S hs (called.0, m) passed)
      at (no n) = inl (solution s R, (s, solved hc i hs (called, λ o. n o.1) passed), refl)

  -- then they have gone to all call rows, and so have those of another set
  all_gone : (found ks' : List ℕ) → ((key : ℕ) → Memᴰ key ks → Memᴰ key ks')
      → ((key : ℕ) → HeadGives p (keys_of table known) (keys_of table rows) k kept found key → Memᴰ key ks') → (q : ℕ) → InSet kept q ⊎ InSet found q → GoneTo p k q (keys_of table rows) ks'
  all_gone found ks' more all q (inl i) c hc s C R S hs called passed = ⊎_elim (λ x. all _ (inr (inl x))) (more _) (gone_or_solved c hc q s C R S i hs called passed)
  all_gone found ks' more all q (inr i) c hc s C R S hs called passed = all _ (inr (inr (solution s R, (s, solved hc i hs (called, λ o. Memᴰ.not-nil o.1) passed), refl)))

module _ (words dir table heads : List ℕ) (since rows k : ℕ) (w : HeadAsked words dir table heads since rows k) where
  abbrev p : Program
  p = w.situation.p

  -- the set has all marks that result from the first so many rows with one from row `from` on
  abbrev pub Holds : ℕ → ℕ → List ℕ → Type 0
  Holds from upto found = (q : ℕ) → q < masks → HeadMark p table from upto k (length w.clause.c.body) q → InSet found q

  -- marks of a row that is not known are in the set `found`; those of them that are not kept are in `new`
  kept_ends : (known : ℕ) (kept found new ks : List ℕ) → known ≤ since → Holds 0 known kept → Holds known rows found → ((q : ℕ) → InSet found q → InSet kept q ⊎ InSet new q)
      → ((q : ℕ) → InSet kept q → GoneTo p k q (keys_of table known) ks) → (key : ℕ) → WithHead p (keys_of table since) (keys_of table rows) k key
      → Memᴰ key ks ⊎ HeadGives p (keys_of table known) (keys_of table rows) k kept new key
  kept_ends known kept found new ks early old late parted gone key =
      ⊎_elim
      (λ (row, (N, reached, goes), e). inr (inl (row, (N, reached_earlier p (keys_of table known) (keys_of table since) (keys_of table rows) within k 0 N reached, goes), e)))
      (λ h. ⊎_elim
      (λ b. inr (inr (inl (earlier (ends_solved words dir table heads since rows k w 0 known kept old (keys_of table since) key b)))))
      (λ b. split (ends_solved words dir table heads since rows k w known rows found late [] key b))
      (at_kept_end p (keys_of table known) (keys_of table since) (keys_of table rows) within k key h))
    where
      within : (key : ℕ) → Memᴰ key (keys_of table known) → Memᴰ key (keys_of table since)
      within = keys_within table known since early

      earlier : Keyed p (Solved p (keys_of table since) (keys_of table rows) k kept) key → Keyed p (Solved p (keys_of table known) (keys_of table rows) k kept) key
      earlier (_, (s, solved hc i hs (called, n) passed), e) = (_, (s, solved hc i hs (called, λ o. n (o.0, within _ o.1)) passed), e)

      split : Keyed p (Solved p [] (keys_of table rows) k found) key → Memᴰ key ks ⊎ HeadGives p (keys_of table known) (keys_of table rows) k kept new key
      split (_, (s, solved {c = c} {q = q} {C = C} {R = R} {S = S} hc i hs called passed), e) =
          rw e
          (⊎_elim
          (λ i'. ⊎_elim (λ x. inr (inr (inl x))) inl (gone_or_solved p table known rows k kept ks gone c hc q s C R S i' hs called.0 passed))
          (λ i'. inr (inr (inr (solution s R, (s, solved hc i' hs called passed), refl))))
          (parted q i))

  -- where a call row is new, all marks; else the new ones are enough
  pub wide_ends : (from : ℕ) (none found : List ℕ) → from ≤ since → (SinceIn p heads (predicate_of w.clause.c.head) 0 since → from ≡ 0) → Holds from rows found → (key : ℕ)
      → WithHead p (keys_of table since) (keys_of table rows) k key → HeadGives p (keys_of table since) (keys_of table rows) k none found key
  wide_ends from none found early late holds key =
      ⊎_elim inl (λ h. inr (inr (ends_solved words dir table heads since rows k w from rows found holds [] key (at h))))
    where
      at : AtEnd p (keys_of table since) (keys_of table rows) k key → EndsBy p (keys_of table from) (keys_of table rows) [] (keys_of table rows) k key
      at (inl (row, (N, new_on_head {c = c} hc reached, s, C, called, ends), e)) =
          (row, (N, new_on_head hc (reached_earlier p (keys_of table from) (keys_of table since) (keys_of table rows) (keys_within table from since early) k (length c.body) N reached), s, C, (called, λ o. Memᴰ.not-nil o.1), ends), e)
      at (inr (row, (N, on_head hc reached, s, C, called, ends), e)) =
          let first : from ≡ 0 = late (late_found words dir table heads since rows k w N s C row called ends) in
          (row, (N, new_on_head hc (all_new p (RowsIn p (keys_of table from)) (RowsIn p (keys_of table rows)) (λ r o. Memᴰ.not-nil (rw first at o.1)) reached), s, C, (called.0, λ o. Memᴰ.not-nil o.1), ends), e)

-- a clause whose marks are kept: `found` has the marks of rows that are not known, and `new` those of them that are not kept
module _ (words dir table heads : List ℕ) (since rows k : ℕ) (w : HeadAsked words dir table heads since rows k) (kept : List ℕ) {ks : List ℕ} (s : KeepingMarks w.situation.p table kept rows ks)
    (few : get_or dir (clause_vars + k) 0 ≤ kept_vars) (first end : ℕ) (is_first : first ≡ kept_set * k) (is-end : end ≡ first + kept_set) (known : ℕ) (early : known ≤ known_of kept_set kept k)
    (found new : List ℕ) (marked : Collected (HeadMark w.situation.p table known rows k (length w.clause.c.body)) (replicate set_words 0) found) (unkept : Unkept kept (kept_set * k) kept_set found new) where
  abbrev q : Program
  q = w.situation.p

  abbrev known_part : List ℕ
  known_part = between kept first end

  found_few : (m : ℕ) → InSet found m → m < masks_in kept_set
  found_few m i =
      omega (
        arith,
        few_masks words dir table heads since rows k w kept s few first end is_first is-end,
        mark_below words dir table heads since rows k w 0 rows m (found_result words dir table heads since rows k w known rows (le_refl rows) found marked m i),
      )

  -- the new marks are some of those found, or none
  pub new_all : (marks : ℕ) → marks ≡ 2 ^ get_or dir (clause_vars + k) 0 → FoundOn q table rows k (length w.clause.c.body) new marks
  new_all marks e =
      let f = found_all words dir table heads since rows k w known rows (le_refl rows) found marked marks e in
      record {
        few = f.few;
        within = rw unkept.as_long f.within;
        below = λ m i. f.below m ((unkept.members m).0 i).0;
        result = λ m i. f.result m ((unkept.members m).0 i).0;
      }

  pub new_none : (marks : ℕ) → marks ≡ 0 → ((m : ℕ) → (m < masks_in kept_set) × InSet new m → ⊥) → FoundOn q table rows k (length w.clause.c.body) new marks
  new_none marks e none =
      record {
        few = omega arith;
        within = omega arith;
        below = λ m i. absurd (none m (found_few m ((unkept.members m).0 i).0, i));
        result = λ m i. absurd (none m (found_few m ((unkept.members m).0 i).0, i));
      }

  part_gone : (m : ℕ) → InSet known_part m → GoneTo q k m (keys_of table known) ks
  part_gone m i c hc s' C R S hs called passed =
      let (l, h) = (in_part words dir table heads since rows k w kept s few first end is_first is-end m).0 i in
      s.carried k m l h c hc s' C R S hs (called.0, keys_within table known (known_of kept_set kept k) early _ called.1) passed

  -- with the rows so far, all that the clause ends in
  pub known_ends : known ≤ since → (key : ℕ) → WithHead q (keys_of table since) (keys_of table rows) k key
      → Memᴰ key ks ⊎ HeadGives q (keys_of table known) (keys_of table rows) k known_part new key
  known_ends before =
      kept_ends words dir table heads since rows k w known known_part found new ks before
      (λ m l. kept_holds words dir table heads since rows k w kept s few first end is_first is-end known early m)
      (found_holds words dir table heads since rows k w known rows (le_refl rows) found marked)
      (λ m i. let l = found_few m i in ⊎_elim (λ h. inl ((in_part words dir table heads since rows k w kept s few first end is_first is-end m).1 (l, h))) inr (kept_or_new kept k found new unkept m l i))
      part_gone

  -- and afterwards the new marks are kept, all rows before are known, and all marks have gone to their call rows
  pub known_keeps : (kept' ks' : List ℕ) → Gained (InSet new) (kept_set * k) kept_set kept kept' → ((key : ℕ) → Memᴰ key ks → Memᴰ key ks')
      → ((key : ℕ) → HeadGives q (keys_of table known) (keys_of table rows) k known_part new key → Memᴰ key ks') → KeepingMarks q table (set kept' (kept_set * things + k) rows) rows ks'
  known_keeps kept' ks' g more all =
      marks_gained w.situation.setting table rows k w.clause.nth_clause kept kept' (marks_stay w.situation.setting table table kept rows ks ks' (λ m l. refl) more s) known early
      (gained_marked k kept kept' found new marked unkept g)
      (λ m l h. all_gone q table known rows k known_part ks part_gone new ks' more all m
      (⊎_elim (λ x. inl ((in_part words dir table heads since rows k w kept s few first end is_first is-end m).1 (l, x))) inr ((g.members m l).0 h)))
