-- Marks on a clause's head that are kept between rounds: what results from the rows so far is what is kept and what a row more gives.
use Prim.Native.Nat.{ℕ, zero, suc, ◌+◌, ◌*◌, ◌/◌, ◌%◌, ◌^◌, ◌≤◌, ◌<◌}
use native.Mathlib.Omega.{arith}
use native.Mathlib.Decide.{ℕ_discrete}
use mathlib.Core.Path.{◌≡◌, sym, ap, subst, ◌∙◌}
use mathlib.Core.Logic.{◌⊎◌, inl, inr, ⊎_elim, ◌↔◌}
use mathlib.Core.List.Memᴰ
use mathlib.Core.List.{List, [], Memᴰ}
use lib.ListN.{length, get_or, set, replicate}
use lib.Pow.{pow_mono}
use Rattle.terms.specs.Term.{Term}
use Rattle.terms.proofs.Masks.{has_none, has_decided}
use Rattle.marks.specs.Modes.{modes}
use Rattle.marks.specs.Pass.{Pass}
use Rattle.program.specs.Lists.{between}
use Rattle.program.specs.Program.{Nth, Clause, Program}
use Rattle.program.specs.Shapes.{shapes}
use Rattle.program.proofs.ShapeLaws.{nth_same, member_decided}
use Rattle.program.proofs.Nths.{nth_below}
use Rattle.directory.specs.Layout.{clause_vars}
use Rattle.rows.specs.Rows.{keys_of}
use Rattle.rows.specs.MaskSet.{set_words, InSet}
use Rattle.rows.specs.KeptSets.{masks_in, KeptAt, Gained, Unkept, things, known_of, kept_words}
use Rattle.rows.proofs.MaskSets.{zero_word, none_in_zeros}
use Rattle.rows.proofs.KeptWords.{part_length, part_members}
use Rattle.rows.proofs.KeptSets.{keeping_none, keeping_later, keeping_for, known_here, known_other, kept_here, kept_other, keeping_gained}
use Rattle.table.specs.Rules.{Row, call, cont, solution, Reached, first, next}
use Rattle.table.specs.Keys.{row_key}
use Rattle.table.specs.Steps.{opens, makes}
use Rattle.table.specs.NewRows.{NewReached}
use Rattle.table.proofs.NewRows.{new_reached}
use Rattle.table.proofs.Added.{behind_keeps}
use Rattle.program.proofs.FoundLaws.{sound_same}
use Rattle.steps.specs.Steps.{RowsIn, Stepped}
use Rattle.steps.specs.Situation.{Setting, ClauseOf, HeadAsked}
use Rattle.steps.specs.Heads.{HeadMark, Collected, FoundOn}
use Rattle.steps.proofs.Stepping.{keys_stay, stepped_within}
use Rattle.steps.proofs.Meetings.{setting_within}
use Rattle.ends.specs.Keeping.{kept_vars, kept_set, KeptIn, GoneTo, MarksOf, KeepingMarks, KeepsMarks}
use Rattle.ends.proofs.ClauseRows.{clause_few}
use Rattle.ends.proofs.HeadMarks.{all_new, mark_all, mark_below}

-- marks result from rows that are known alone, or from one that is not
pub reached_known_or_new : (p : Program) (known ks : List ℕ) {k i N : ℕ} → Reached modes p (RowsIn p ks) k i N
    → Reached modes p (RowsIn p known) k i N ⊎ NewReached modes p (RowsIn p known) (RowsIn p ks) k i N
reached_known_or_new p known ks {N = N} (first {k = k} {s = s} {M = M} hc hs row passed) = at (member_decided ℕ_discrete (row_key p (call s M)) known)
  where
    at : Dec (Memᴰ (row_key p (call s M)) known) → Reached modes p (RowsIn p known) k 0 N ⊎ NewReached modes p (RowsIn p known) (RowsIn p ks) k 0 N
    at (yes m) = inl (first hc hs (row.0, m) passed)
    at (no n) = inr (s, M, (row, λ o. n o.1), opens hc hs passed)
reached_known_or_new p known ks {N = N} (next {k = k} {i = i} {s = s} {M = M} {L = L} hc hA hs row row' passed joined) =
    at (member_decided ℕ_discrete (row_key p (cont (suc k) (suc i) M)) known) (member_decided ℕ_discrete (row_key p (solution s L)) known)
  where
    at : Dec (Memᴰ (row_key p (cont (suc k) (suc i) M)) known) → Dec (Memᴰ (row_key p (solution s L)) known)
        → Reached modes p (RowsIn p known) k (suc i) N ⊎ NewReached modes p (RowsIn p known) (RowsIn p ks) k (suc i) N
    at (yes m) (yes m') = inl (next hc hA hs (row.0, m) (row'.0, m') passed joined)
    at (yes m) (no n) = inr (M, s, L, row, row', inr (λ o. n o.1), makes hc hA hs passed joined)
    at (no n) _ = inr (M, s, L, row, row', inl (λ o. n o.1), makes hc hA hs passed joined)

-- what is new since a round is new since an earlier one
pub reached_earlier : (p : Program) (known ks₀ ks : List ℕ) → ((key : ℕ) → Memᴰ key known → Memᴰ key ks₀) → (k i N : ℕ)
    → NewReached modes p (RowsIn p ks₀) (RowsIn p ks) k i N → NewReached modes p (RowsIn p known) (RowsIn p ks) k i N
reached_earlier p known ks₀ ks within k zero N (s, M, (row, n), o) = (s, M, (row, λ x. n (x.0, within _ x.1)), o)
reached_earlier p known ks₀ ks within k (suc i) N (M, s, L, row, row', n, o) =
    (M, s, L, row, row', ⊎_elim (λ a. inl (λ x. a (x.0, within _ x.1))) (λ a. inr (λ x. a (x.0, within _ x.1))) n, o)

-- nothing results from no rows
nothing_reached : (p : Program) (T₀ : Row ℕ → Type 0) (k i N : ℕ) → NewReached modes p T₀ (RowsIn p []) k i N → ⊥
nothing_reached p T₀ k zero N (s, M, new, o) = Memᴰ.not-nil new.0.1
nothing_reached p T₀ k (suc i) N (M, s, L, row, row', new, o) = Memᴰ.not-nil row.1

module _ (p : Program) (table : List ℕ) where
  -- marks that result from the rows so far result from those that are known, or from one more
  pub mark_split : (known rows k i q : ℕ) → HeadMark p table 0 rows k i q → HeadMark p table 0 known k i q ⊎ HeadMark p table known rows k i q
  mark_split known rows k i q m =
      ⊎_elim
      (λ r. inl (record {
        c = m.c;
        nth_clause = m.nth_clause;
        N = m.N;
        reached = all_new p (RowsIn p []) (RowsIn p (keys_of table known)) (λ row o. Memᴰ.not-nil o.1) r;
        kept = m.kept;
      }))
      (λ r. inr (record { c = m.c; nth_clause = m.nth_clause; N = m.N; reached = r; kept = m.kept }))
      (reached_known_or_new p (keys_of table known) (keys_of table rows) (new_reached modes p (RowsIn p []) (RowsIn p (keys_of table rows)) k i m.N m.reached))

  no_mark : (since k i q : ℕ) → HeadMark p table since 0 k i q → ⊥
  no_mark since k i q m = nothing_reached p (RowsIn p (keys_of table since)) k i m.N m.reached

  -- marks go by the keys of the rows that are known
  mark_stays : (table' : List ℕ) (known k i q : ℕ) → keys_of table' known ≡ keys_of table known → HeadMark p table 0 known k i q → HeadMark p table' 0 known k i q
  mark_stays table' known k i q e m =
      record {
        c = m.c;
        nth_clause = m.nth_clause;
        N = m.N;
        reached = subst (λ (ks : List ℕ). NewReached modes p (RowsIn p []) (RowsIn p ks) k i m.N) (sym e) m.reached;
        kept = m.kept;
      }

-- a clause is one of the things that have a set
clause_near : {words dir : List ℕ} {p : Program} → Setting words dir p → (k : ℕ) → ClauseOf p k → k < things
clause_near setting k w = omega (arith, nth_below w.nth_clause, (setting_within setting).clauses_most)

-- what is kept stays as the table grows, and as rows are linked
pub marks_stay : {words dir : List ℕ} {p : Program} → Setting words dir p → (table table' kept : List ℕ) (n : ℕ) (ks ks' : List ℕ) → ((m : ℕ) → m ≤ n → keys_of table' m ≡ keys_of table m)
    → ((key : ℕ) → Memᴰ key ks → Memᴰ key ks') → KeepingMarks p table kept n ks → KeepingMarks p table' kept n ks'
marks_stay {p = p} setting table table' kept n ks ks' same more s =
    record {
      sets = keeping_for kept_set (ClauseOf p) (clause_near setting)
          (λ k w m q l. (
            mark_stays p table table' m k (length w.c.body) q (same m l),
            mark_stays p table' table m k (length w.c.body) q (sym (same m l)),
          ))
          s.sets;
      carried = λ k q l h c hc s' C R S hs called passed.
          more _ (s.carried k q l h c hc s' C R S hs (rw (same (known_of kept_set kept k) (s.sets.known_within k (record { c = c; nth_clause = hc }))) at called) passed);
    }

pub marks_later : {words dir : List ℕ} {p : Program} → Setting words dir p → (table kept : List ℕ) (n n' : ℕ) {ks : List ℕ} → n ≤ n' → KeepingMarks p table kept n ks → KeepingMarks p table kept n' ks
marks_later {p = p} setting table kept n n' b s = record { sets = keeping_later kept_set (ClauseOf p) (clause_near setting) b s.sets; carried = s.carried }

-- with all words 0 nothing is kept, of no rows
pub marks_none : {words dir : List ℕ} {p : Program} → Setting words dir p → (table kept : List ℕ) (n : ℕ) {ks : List ℕ} → kept ≡ replicate (kept_words kept_set) 0 → KeepingMarks p table kept n ks
marks_none {p = p} setting table kept n e =
    record {
      sets = keeping_none kept_set (ClauseOf p) (clause_near setting) (MarksOf p table) kept n (λ k w q m. no_mark p table 0 k (length w.c.body) q m) e;
      carried = λ k q l h. absurd (has_none (q % 16) (rw (zero (kept_set * k + q / 16)) at h));
    }
  where
    zero : (i : ℕ) → get_or kept i 0 ≡ 0
    zero i = ap (λ (l : List ℕ). get_or l i 0) e ∙ zero_word (kept_words kept_set) i

-- marks in a set are kept, or new
pub kept_or_new : (kept : List ℕ) (k : ℕ) (found found' : List ℕ) → Unkept kept (kept_set * k) kept_set found found' → (q : ℕ) → q < masks_in kept_set → InSet found q → KeptIn kept k q ⊎ InSet found' q
kept_or_new kept k found found' u q l i = at (has_decided (get_or kept (kept_set * k + q / 16) 0) (q % 16))
  where
    at : Dec (KeptIn kept k q) → KeptIn kept k q ⊎ InSet found' q
    at (yes h) = inl h
    at (no o) = inr ((u.members q).1 (i, λ l'. o))

-- a kept set that gains the new marks of a set has all of them
pub gained_marked : {P : ℕ → Type 0} (k : ℕ) (kept kept' found found' : List ℕ) → Collected P (replicate set_words 0) found → Unkept kept (kept_set * k) kept_set found found' → Gained (InSet found') (kept_set * k) kept_set kept kept'
    → Gained P (kept_set * k) kept_set kept kept'
gained_marked k kept kept' found found' m u g =
    record {
      as_long = g.as_long;
      members = λ q l. (
        λ h. ⊎_elim inl (λ i. inr (⊎_elim (λ z. absurd (none_in_zeros set_words q z)) (λ x. x) ((m.members q (omega arith)).0 ((u.members q).0 i).0))) ((g.members q l).0 h),
        λ h. (g.members q l).1 (⊎_elim inl (λ x. kept_or_new kept k found found' u q l ((m.members q (omega arith)).1 (inr x))) h),
      );
      others = g.others;
    }

-- words say one program
pub keeps_marks : {words dir : List ℕ} {p : Program} (table kept : List ℕ) (n m : ℕ) → Setting words dir p → KeepingMarks p table kept n (keys_of table m) → KeepsMarks words dir table kept n m
keeps_marks table kept n m s h p' s' = subst (λ (x : Program). KeepingMarks x table kept n (keys_of table m)) (sound_same _ s.accepted s'.accepted) h

-- the table of a step has the rows that are known
pub step_keeps : {words dir : List ℕ} {p : Program} → Setting words dir p → (May : ℕ → Type 0) (round room n n' rows : ℕ) (table buckets table' buckets' kept : List ℕ) (Must : ℕ → Type 0) → rows ≤ n
    → Stepped May round room n table buckets Must n' table' buckets' → n' ≤ room → KeepingMarks p table kept rows (keys_of table n) → KeepingMarks p table' kept rows (keys_of table' n')
step_keeps setting May round room n n' rows table buckets table' buckets' kept Must l step within =
    let g = stepped_within May round room n n' table buckets table' buckets' Must step within in
    marks_stay setting table table' kept rows (keys_of table n) (keys_of table' n') (λ m b. keys_stay table table' n m (omega arith) g.same_rows)
    (behind_keeps (keys_of table n) May (keys_of table' n') g.behind)

module _ {words dir : List ℕ} {p : Program} (setting : Setting words dir p) (table : List ℕ) (rows k : ℕ) {c : Clause} (hc : Nth p.clauses k c) (kept kept' : List ℕ) {ks : List ℕ}
    (s : KeepingMarks p table kept rows ks) (since : ℕ) (early : since ≤ known_of kept_set kept k) (g : Gained (HeadMark p table since rows k (length c.body)) (kept_set * k) kept_set kept kept')
    (gone : (q : ℕ) → q < masks_in kept_set → KeptIn kept' k q → GoneTo p k q (keys_of table rows) ks) where
  near : (k : ℕ) → ClauseOf p k → k < things
  near = clause_near setting

  this : ClauseOf p k
  this = record { c = c; nth_clause = hc }

  its_marks : (q : ℕ) → q < masks_in kept_set → KeptIn kept' k q ↔ HeadMark p table 0 rows k (length c.body) q
  unfolding this
  its_marks q l = (
    λ h. ⊎_elim
        (λ h'. mark_all p table 0 (known_of kept_set kept k) rows k (length c.body) q (s.sets.known_within k this) ((s.sets.members k this q l).0 h'))
        (λ m. mark_all p table since rows rows k (length c.body) q (omega arith) m)
        ((g.members q l).0 h),
    λ m. (g.members q l).1 (⊎_elim (λ m'. inl ((s.sets.members k this q l).1 (mark_all p table 0 since (known_of kept_set kept k) k (length c.body) q early m'))) inr (mark_split p table since rows k (length c.body) q m)),
  )

  abbrev now_known : List ℕ
  now_known = set kept' (kept_set * things + k) rows

  -- the marks that are new are kept, and all rows so far are known
  pub marks_gained : KeepingMarks p table (set kept' (kept_set * things + k) rows) rows ks
  marks_gained =
      record {
        sets = keeping_gained kept_set (ClauseOf p) near s.sets.every_word k (near k this) g rows s.sets (omega arith)
            (λ w q l. subst (λ (x : Clause). KeptIn kept' k q ↔ HeadMark p table 0 rows k (length x.body) q) (nth_same hc w.nth_clause) (its_marks q l));
        carried = λ k' q l i c' h. went k' q l i c' h (ℕ_discrete k' k);
      }
    where
      went : (k' q : ℕ) → q < masks_in kept_set → KeptIn now_known k' q → (c' : Clause) (h : Nth p.clauses k' c') → Dec (k' ≡ k)
          → (s' C R : ℕ) (S : Term) → Nth (shapes p) s' S → RowsIn p (keys_of table (known_of kept_set now_known k')) (call s' C) → Pass c'.head q S C R → Memᴰ (row_key p (solution s' R)) ks
      went k' q l i c' h (no o) s' C R S hs called =
          s.carried k' q l ((kept_other kept_set (ClauseOf p) near s.sets.every_word k (near k this) g rows k' q o (near k' (record { c = c'; nth_clause = h })) l).0 i) c' h s' C R S hs
          (rw (known_other kept_set (ClauseOf p) near s.sets.every_word k (near k this) g rows k' o) at called)
      went k' q l i c' h (yes e) s' C R S hs called =
          gone q l ((kept_here kept_set (ClauseOf p) near s.sets.every_word k (near k this) g rows q l).0 (subst (λ (x : ℕ). KeptIn now_known x q) e i)) c' (subst (λ (x : ℕ). Nth p.clauses x c') e h) s' C R S hs
          (subst (λ (x : ℕ). RowsIn p (keys_of table x) (call s' C)) (ap (known_of kept_set now_known) e ∙ known_here kept_set (ClauseOf p) near s.sets.every_word k (near k this) g rows) called)

-- the kept set of a clause of few variables has marks that result, and all that result from some of the rows that are known
module _ (words dir table heads : List ℕ) (since rows k : ℕ) (w : HeadAsked words dir table heads since rows k) (kept : List ℕ)
    {ks : List ℕ} (s : KeepingMarks w.situation.p table kept rows ks) (few : get_or dir (clause_vars + k) 0 ≤ kept_vars) (first end : ℕ) (is_first : first ≡ kept_set * k) (is-end : end ≡ first + kept_set) where
  abbrev part : List ℕ
  part = between kept first end

  part_fits : first + kept_set ≤ length kept
  part_fits = omega (arith, (clause_few words dir table heads since rows k w).0, s.sets.every_word)

  pub in_part : (q : ℕ) → InSet part q ↔ ((q < masks_in kept_set) × KeptIn kept k q)
  in_part q = subst (λ (x : ℕ). InSet part q ↔ ((q < masks_in kept_set) × KeptAt kept x q)) is_first (part_members kept first kept_set part_fits end is-end q)

  kept_mark : (q : ℕ) → InSet part q → HeadMark w.situation.p table 0 (known_of kept_set kept k) k (length w.clause.c.body) q
  kept_mark q h = let (b, i) = (in_part q).0 h in (s.sets.members k w.clause q b).0 i

  pub few_masks : 2 ^ get_or dir (clause_vars + k) 0 ≤ masks_in kept_set
  few_masks = pow_mono {j = 9} few

  pub kept_on : (marks : ℕ) → marks ≡ 2 ^ get_or dir (clause_vars + k) 0 → FoundOn w.situation.p table rows k (length w.clause.c.body) part marks
  kept_on marks e =
      record {
        few = omega (arith, few_masks);
        within = omega (arith, few_masks, part_length kept first kept_set part_fits end is-end);
        below = λ q h. rw e (mark_below words dir table heads since rows k w 0 (known_of kept_set kept k) q (kept_mark q h));
        result = λ q h. mark_all w.situation.p table 0 (known_of kept_set kept k) rows k _ q (s.sets.known_within k w.clause) (kept_mark q h);
      }

  pub kept_holds : (upto : ℕ) → upto ≤ known_of kept_set kept k → (q : ℕ) → HeadMark w.situation.p table 0 upto k (length w.clause.c.body) q → InSet part q
  kept_holds upto l q m =
      let b : q < masks_in kept_set = omega (arith, few_masks, mark_below words dir table heads since rows k w 0 upto q m) in
      (in_part q).1 (b, (s.sets.members k w.clause q b).1 (mark_all w.situation.p table 0 upto (known_of kept_set kept k) k _ q l m))
