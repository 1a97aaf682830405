-- Marks on a clause's head: which marks a set has, and what they end in.
use Prim.Native.Nat.{ℕ, ◌+◌, ◌/◌, ◌%◌, ◌^◌, ◌≤◌, ◌<◌}
use native.Mathlib.Omega.{arith}
use native.Mathlib.Decide.{dec_lt}
use mathlib.Core.Path.{◌≡◌, subst}
use mathlib.Core.Logic.{inl, inr, ⊎_elim, ◌↔◌}
use mathlib.Core.List.Memᴰ
use mathlib.Core.List.{List, [], Memᴰ}
use lib.ListN.{length, get_or, replicate, get_or-eq_default}
use lib.Pow.{pow_mono}
use Rattle.terms.specs.Term.{Term, Subst, All, Occ}
use Rattle.terms.specs.Cells.{Atom}
use Rattle.terms.proofs.Masks.{has_none, marks_for, marks_below}
use Rattle.terms.proofs.Substs.{occ_all, all_occ}
use Rattle.terms.proofs.Variables.{occ_decided}
use Rattle.terms.proofs.RunVariables.{atom_variables}
use Rattle.marks.specs.Pass.{Known, Pass}
use Rattle.marks.specs.Modes.{modes, KeptTo}
use Rattle.marks.proofs.Modes.{kept_of, kept_of_kept}
use Rattle.program.specs.Program.{Clause, Program}
use Rattle.program.specs.Limits.{masks}
use Rattle.program.proofs.ShapeLaws.{nth_same}
use Rattle.program.proofs.Nths.{nth_below}
use Rattle.directory.specs.Layout.{clause_vars}
use Rattle.directory.specs.Directory.{predicate_of}
use Rattle.rows.specs.Rows.{slot_at, keys_of}
use Rattle.rows.specs.MaskSet.{set_words, InSet}
use Rattle.rows.proofs.MaskSets.{none_in_zeros}
use Rattle.rows.proofs.Keys.{listed_key, keys_by_row}
use Rattle.table.specs.Rules.{Row, call, Reached, first, next}
use Rattle.table.specs.Steps.{opens, makes, EndsIn, ends_in}
use Rattle.table.specs.NewRows.{New, NewReached, NewOnHead, new_on_head}
use Rattle.table.specs.RoundKeys.{Keyed}
use Rattle.table.proofs.RuleLaws.{reached_within}
use Rattle.table.proofs.NewRows.{new_reached}
use Rattle.steps.specs.Steps.{RowsIn}
use Rattle.steps.specs.Situation.{HeadAsked}
use Rattle.steps.specs.Since.{SinceIn}
use Rattle.steps.specs.Heads.{ReachedSince, HeadMark, Collected, Solved, solved, FoundOn}
use Rattle.steps.proofs.ShapeAtoms.{shape_is_atom}
use Rattle.steps.proofs.Meetings.{setting_within, one_predicate}
use Rattle.steps.proofs.Bodies.{head_is_atom}
use Rattle.steps.proofs.SlotRows.{in_slot}
use Rattle.solving.proofs.SolveLaws.{late_row}
use Rattle.ends.proofs.ClauseRows.{vars_few, vars_head}

-- what clause k ends in by marks on its head that result from rows `marked` with one that is not in ks₀, and by call rows that are not in `from`
abbrev pub EndsBy : Program → List ℕ → List ℕ → List ℕ → List ℕ → ℕ → ℕ → Type 0
EndsBy p ks₀ marked from ks k =
    Keyed p (λ row.
    (N : ℕ) × NewOnHead modes p (RowsIn p ks₀) (RowsIn p marked) k N × (s : ℕ) × (C : ℕ) × New modes p (RowsIn p from) (RowsIn p ks) (call s C) × EndsIn modes p k N s C row)

-- marks of other variables than the head's pass nothing on
module _ (H S : Term) (N q C R : ℕ) (k : KeptTo (λ v. Occ v H) N q) where
  known_kept : (α : Subst) (z : ℕ) → Known H N α z ↔ Known H q α z
  known_kept α z = (λ (x, o, h, d). (x, o, (k x).1 (o, h), d), λ (x, o, h, d). (x, o, ((k x).0 h).1, d))

  pub kept_passes : Pass H N S C R → Pass H q S C R
  kept_passes u =
      record {
        α = u.α;
        β = u.β;
        unifier = u.unifier;
        result = marks_for R (λ y. (⊎_elim inl (λ (o, h). inr (o, wider y h)), ⊎_elim inl (λ (o, h). inr (o, narrower y h)))) u.result;
      }
    where
      wider : (y : ℕ) → All (Known H N u.α) (u.β y) → All (Known H q u.α) (u.β y)
      wider y h = occ_all (Known H q u.α) (u.β y) (λ z o. (known_kept u.α z).0 (all_occ (Known H N u.α) (u.β y) h z o))

      narrower : (y : ℕ) → All (Known H q u.α) (u.β y) → All (Known H N u.α) (u.β y)
      narrower y h = occ_all (Known H N u.α) (u.β y) (λ z o. (known_kept u.α z).1 (all_occ (Known H q u.α) (u.β y) h z o))

-- with nothing before, every row is new
pub all_new : (p : Program) (T₀ T : Row ℕ → Type 0) → ((row : Row ℕ) → T₀ row → ⊥) → {k i N : ℕ} → Reached modes p T k i N → NewReached modes p T₀ T k i N
all_new p T₀ T none (first hc hs row passed) = (_, _, (row, none _), opens hc hs passed)
all_new p T₀ T none (next hc hA hs row row' passed joined) = (_, _, _, row, row', inl (none _), makes hc hA hs passed joined)

-- the first rows are among more of them
pub keys_within : (table : List ℕ) (m n : ℕ) → m ≤ n → (key : ℕ) → Memᴰ key (keys_of table m) → Memᴰ key (keys_of table n)
keys_within table m n l key h = let (r, b, e) = listed_key table m key h in (keys_by_row table n key).1 (r, omega arith, e)

-- marks from some of the rows are marks from all, since the first
pub since_first : (p : Program) (table : List ℕ) (since marked rows k i N : ℕ) → marked ≤ rows → ReachedSince p table since marked k i N → ReachedSince p table 0 rows k i N
since_first p table since marked rows k i N l h =
    all_new p (RowsIn p (keys_of table 0)) (RowsIn p (keys_of table rows)) (λ row o. Memᴰ.not-nil o.1)
    (reached_within modes p (RowsIn p (keys_of table marked)) (RowsIn p (keys_of table rows)) (λ row (g, h). (g, keys_within table marked rows l _ h))
    (new_reached modes p (RowsIn p (keys_of table since)) (RowsIn p (keys_of table marked)) k i N h))

-- so marks on a head
pub mark_all : (p : Program) (table : List ℕ) (since known rows k i q : ℕ) → known ≤ rows → HeadMark p table since known k i q → HeadMark p table 0 rows k i q
mark_all p table since known rows k i q l m =
    record { c = m.c; nth_clause = m.nth_clause; N = m.N; reached = since_first p table since known rows k i m.N l m.reached; kept = m.kept }

-- a set without words has no marks
pub empty_on : (p : Program) (table : List ℕ) (rows k i : ℕ) → FoundOn p table rows k i [] 0
empty_on p table rows k i = record { few = omega arith; within = omega arith; below = λ q h. absurd (has_none (q % 16) h); result = λ q h. absurd (has_none (q % 16) h) }

-- marks that an empty set has gained
pub marked_empty : (P : ℕ → Type 0) (found₀ found : List ℕ) → found₀ ≡ replicate set_words 0 → Collected P found₀ found → Collected P (replicate set_words 0) found
marked_empty P found₀ found e m = subst (λ (f : List ℕ). Collected P f found) e m

module _ (words dir table heads : List ℕ) (since rows k : ℕ) (w : HeadAsked words dir table heads since rows k) where
  abbrev p : Program
  p = w.situation.p

  abbrev c : Clause
  c = w.clause.c

  abbrev T : Row ℕ → Type 0
  T = RowsIn p (keys_of table rows)

  head_atom : Atom p.predicates p.functions c.head
  head_atom = head_is_atom w.situation.setting w.clause.nth_clause

  -- marks that result are a head mark, kept to the head's variables
  head_mark : (since' marked i N : ℕ) → ReachedSince p table since' marked k i N → (q : ℕ) × (q < masks) × KeptTo (λ v. Occ v c.head) N q × HeadMark p table since' marked k i q
  head_mark since' marked i N reached =
      let q = kept_of (λ v. Occ v c.head) (λ v. occ_decided v c.head) N in
      let kept = kept_of_kept (λ v. Occ v c.head) (λ v. occ_decided v c.head) N in (
        q,
        marks_below 16 q (λ v h. atom_variables head_atom v ((kept v).0 h).0),
        kept,
        record { c = c; nth_clause = w.clause.nth_clause; N = N; reached = reached; kept = kept },
      )

  -- marks on the head are of its variables
  pub mark_below : (since' upto q : ℕ) → HeadMark p table since' upto k (length c.body) q → q < 2 ^ get_or dir (clause_vars + k) 0
  mark_below since' upto q m =
      marks_below (get_or dir (clause_vars + k) 0) q
      (λ v b. vars_head words dir table heads since rows k w v (subst (λ (d : Clause). Occ v d.head) (nth_same m.nth_clause w.clause.nth_clause) ((m.kept v).0 b).0))

  -- a set of marks that result from the first so many rows
  module _ (since' upto : ℕ) (few : upto ≤ rows) (found : List ℕ) (marked : Collected (HeadMark p table since' upto k (length c.body)) (replicate set_words 0) found) where
    -- what the set has is below the number of masks, and a head mark
    pub found_below : (q : ℕ) → InSet found q → q < masks
    found_below q h = at (dec_lt q masks)
      where
        at : Dec (q < masks) → q < masks
        at (yes l) = l
        at (no n) = absurd (has_none (q % 16) (rw (get_or-eq_default found 0 {n = q / 16} (omega (arith, marked.size))) at h))

    found_mark : (q : ℕ) → InSet found q → HeadMark p table since' upto k (length c.body) q
    found_mark q h = ⊎_elim (λ z. absurd (none_in_zeros set_words q z)) (λ m. m) ((marked.members q (found_below q h)).0 h)

    pub found_result : (q : ℕ) → InSet found q → HeadMark p table 0 rows k (length c.body) q
    found_result q h = mark_all p table since' upto rows k (length c.body) q few (found_mark q h)

    -- the set has all such marks
    pub found_holds : (q : ℕ) → q < masks → HeadMark p table since' upto k (length c.body) q → InSet found q
    found_holds q l m = (marked.members q l).1 (inr m)

    -- all that the head's variables can have, or none
    pub found_all : (marks : ℕ) → marks ≡ 2 ^ get_or dir (clause_vars + k) 0 → FoundOn p table rows k (length c.body) found marks
    found_all marks e =
        let m : 2 ^ get_or dir (clause_vars + k) 0 ≤ 2 ^ 16 = pow_mono (vars_few words dir table heads since rows k w) in
        record { few = omega arith; within = omega (arith, marked.size); below = λ q h. rw e (mark_below since' upto q (found_mark q h)); result = found_result }

    pub found_none : (marks : ℕ) → marks ≡ 0 → ((q : ℕ) → HeadMark p table since' upto k (length c.body) q → ⊥) → FoundOn p table rows k (length c.body) found marks
    found_none marks e none = record { few = omega arith; within = omega arith; below = λ q h. absurd (none q (found_mark q h)); result = found_result }

  -- what the clause ends in by marks that the set has is solved
  pub ends_solved : (since' upto : ℕ) (found : List ℕ) → ((q : ℕ) → q < masks → HeadMark p table since' upto k (length c.body) q → InSet found q) → (from : List ℕ) (key : ℕ)
      → EndsBy p (keys_of table since') (keys_of table upto) from (keys_of table rows) k key → Keyed p (Solved p from (keys_of table rows) k found) key
  ends_solved since' upto found holds from key (_, (N, new_on_head {c = d} hc reached, s, C, called, ends_in {S = S} {R = R} hc' hs passed), e) =
      let same = nth_same hc w.clause.nth_clause in
      let (q, l, kept, m) = head_mark since' upto (length c.body) N (subst (λ (d : Clause). ReachedSince p table since' upto k (length d.body) N) same reached) in (
        _,
        (
          s,
          solved w.clause.nth_clause (holds q l m) hs called
              (kept_passes c.head S N q C R kept (subst (λ (d : Clause). Pass d.head N S C R) (nth_same hc' w.clause.nth_clause) passed)),
        ),
        e,
      )

  -- a new call row whose shape unifies with the head is one of a shape of its predicate
  pub late_found : (N s C : ℕ) (row : Row ℕ) → New modes p (RowsIn p (keys_of table since)) T (call s C) → EndsIn modes p k N s C row
      → SinceIn p heads (predicate_of c.head) 0 since
  late_found N s C _ called (ends_in {S = S} {R = R} hc hs passed) =
      let chains = w.situation.chains in
      let (r, l, e, m) = in_slot p table heads since rows chains rows (call s C) (omega arith) called.0 in
      let late : since ≤ r = late_row p table since rows r s C e m called in
      let below : s < length heads = omega (arith, nth_below hs, w.situation.setting.directory.shape_count_law, w.situation.setting.directory.shapes_most, chains.all_heads) in
      let z : 0 + s ≡ s = omega arith in
      let u : Pass c.head N S C R = subst (λ (d : Clause). Pass d.head N S C R) (nth_same hc w.clause.nth_clause) passed in (
        s,
        S,
        hs,
        one_predicate u.α u.β head_atom (shape_is_atom p (setting_within w.situation.setting) hs) u.unifier.unifies,
        rw z (newer r e l late below (dec_lt since (get_or heads s 0))),
      )
    where
      newer : (r : ℕ) → slot_at table r ≡ s → r < rows → since ≤ r → s < length heads → Dec (since < get_or heads s 0) → since < get_or heads s 0
      newer r e l late below (yes b) = b
      newer r e l late below (no b) = absurd ((w.situation.chains.by_slot.from_heads s below).last r (omega arith) l e)
