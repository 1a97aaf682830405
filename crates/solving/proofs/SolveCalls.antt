-- Rule 3 along the call rows of one shape, newest first: each has its solution row, which is added where its mask is not in the set, and the walk goes on
-- to the row before.
use Prim.Native.Nat.{ℕ, ◌+◌, ◌*◌, ◌-◌, ◌≤◌, ◌<◌}
use native.Mathlib.Omega.{arith}
use mathlib.Core.Path.{◌≡◌, refl, sym, ap, subst, ◌∙◌}
use mathlib.Core.Bool.{Bool}
use mathlib.Core.Logic.{◌⊎◌, inl, inr, ⊎_elim}
use mathlib.Core.List.Memᴰ
use mathlib.Core.List.{List, Memᴰ}
use lib.ListN.{length}
use lib.Dec.{T}
use Rattle.terms.specs.Mask.{Has}
use Rattle.terms.specs.Term.{Occ}
use Rattle.marks.specs.Modes.{Together}
use Rattle.marks.proofs.Passing.{pass_unique}
use Rattle.program.specs.Limits.{row_size}
use Rattle.rows.specs.Rows.{slots, slot_at, mask_at, before_at, keys_of, key_of}
use Rattle.rows.specs.MaskSet.{InSet, Inserted}
use Rattle.rows.specs.Store.{Added}
use Rattle.rows.specs.Chains.{Walked}
use Rattle.rows.proofs.Adding.{same_mask}
use Rattle.rows.proofs.MaskSets.{was_there}
use Rattle.rows.proofs.Chaining.{chain_begins, chain_row_below, chain_row_class, chain_goes_on, chain_falls, walked_same}
use Rattle.table.specs.Rules.{Row, call, solution}
use Rattle.table.specs.Keys.{row_key}
use Rattle.table.specs.RoundKeys.{Keyed}
use Rattle.table.proofs.Added.{behind_keeps}
use Rattle.steps.specs.Steps.{RowsIn, Given, Writable, Grew, Stepped}
use Rattle.solving.specs.Solving.{ToShape, SolvedBy, SetKeys, CallsAsked}
use Rattle.solving.specs.SolvedSets.{PutFor}
use Rattle.steps.proofs.Stepping.{grew_none, grew_must, stepped_then, stepped_within, stepped_past, added_stepped}
use Rattle.steps.proofs.SlotRows.{in_slot}
use Rattle.solving.proofs.SolveLaws.{late_row, to_shape_below, call_there, solution_key, passes_own, both_variables, solution_given}

-- the solution row of the call row r is there
pub record SolvedRow (table₀ : List ℕ) (slot mask : ℕ) (table : List ℕ) (rows r : ℕ) : Type 0 where
  pub R : ℕ
  pub together : Together (mask_at table₀ r) mask R
  pub there : Memᴰ (key_of slot R) (keys_of table rows)

-- the walk has come to the link: rows were added behind the first n, those of the masks in the set are there, and what was put in is of the shape's variables
pub record Going {table₀ solved₀ : List ℕ} {since old newest slot mask n : ℕ} (a : CallsAsked table₀ solved₀ since old newest slot mask n) (round room : ℕ) (buckets₀ : List ℕ)
    (link rows : ℕ) (table buckets solved : List ℕ) : Type 0 where
  pub grew : Grew (Given a.to.p (keys_of table₀ old)) round room n table₀ buckets₀ (SetKeys a.to.S slot solved) rows table buckets
  pub walked : Walked (slot_at table₀) a.to.s old link (SolvedRow table₀ slot mask table rows)
  pub put : PutFor a.to.S solved₀ solved

-- the call row at the link has its solution row, of mask R, and no row is lost
pub record Turned {table₀ solved₀ : List ℕ} {since old newest slot mask n : ℕ} (a : CallsAsked table₀ solved₀ since old newest slot mask n) (round room : ℕ) (buckets₀ : List ℕ)
    (rows : ℕ) (table : List ℕ) (R r : ℕ) (table' buckets' solved' : List ℕ) : Type 0 where
  pub grew : Grew (Given a.to.p (keys_of table₀ old)) round room n table₀ buckets₀ (SetKeys a.to.S slot solved') r table' buckets'
  pub there : Memᴰ (key_of slot R) (keys_of table' r)
  pub keeps : (key : ℕ) → Memᴰ key (keys_of table rows) → Memᴰ key (keys_of table' r)

module _ {table₀ solved₀ : List ℕ} {since old newest slot mask n : ℕ} (a : CallsAsked table₀ solved₀ since old newest slot mask n) (round room : ℕ) (buckets₀ : List ℕ) (behind : old ≤ n) where
  abbrev At : ℕ → ℕ → List ℕ → List ℕ → List ℕ → Type 0
  At link rows table buckets solved = Going a round room buckets₀ link rows table buckets solved

  abbrev w : ToShape table₀ since old newest slot
  w = a.to

  abbrev ks : List ℕ
  ks = keys_of table₀ old

  pub going_begins : Writable table₀ buckets₀ n room → At newest n table₀ buckets₀ solved₀
  going_begins writable =
      record {
        grew = grew_none (Given w.p ks) round room n table₀ buckets₀ (SetKeys w.S slot solved₀) writable a.solved_there;
        walked = rw w.newest_is
            (chain_begins (slot_at table₀) (before_at table₀) w.heads old w.chains.by_slot w.s (SolvedRow table₀ slot mask table₀ n)
            (rw w.chains.all_heads (omega (arith, to_shape_below w))));
        put = λ N. inl;
      }

  module _ (link rows : ℕ) (table buckets solved : List ℕ) (g : At link rows table buckets solved) where
    pub going_slot : slot < slots
    going_slot = omega (arith, w.slot_is, to_shape_below w)

    module _ (h : 0 < link) where
      pub going_row : link - 1 < old
      going_row = chain_row_below (slot_at table₀) (before_at table₀) w.heads old w.chains.by_slot w.s _ link g.walked h

      -- the row's words are in the table, as they were
      pub going_read : row_size * (link - 1) + 4 < length table
      going_read = omega (arith, going_row, w.chains.fits, g.grew.same_length)

      mask_same : mask_at table (link - 1) ≡ mask_at table₀ (link - 1)
      mask_same = same_mask table₀ table n g.grew.same_rows (link - 1) (omega (arith, going_row))

      module _ (own R : ℕ) (new : Bool) (solved' : List ℕ) (own_is : own ≡ mask_at table (link - 1)) (together : Together own mask R) (ins : Inserted solved solved' R new) where
        here : Together (mask_at table₀ (link - 1)) mask R
        here = subst (λ (C : ℕ). Together C mask R) (own_is ∙ mask_same) together

        its_call : RowsIn w.p ks (call w.s (mask_at table₀ (link - 1)))
        its_call =
            call_there w (link - 1) going_row
            (chain_row_class (slot_at table₀) (before_at table₀) w.heads old w.chains.by_slot w.s _ link g.walked h)

        of_shape : (v : ℕ) → Has R v → Occ v w.S
        of_shape = both_variables w mask a.q a.passes (mask_at table₀ (link - 1)) R its_call here

        pub put_more : PutFor w.S solved₀ solved'
        put_more N h = ⊎_elim (g.put N) (λ e. inr (subst (λ (M : ℕ). (v : ℕ) → Has M v → Occ v w.S) (sym e) of_shape)) ((ins.members N).0 h)

        -- the set has the masks that it had, and R
        set_keys : (key : ℕ) → SetKeys w.S slot solved' key → SetKeys w.S slot solved key ⊎ (key ≡ key_of slot R)
        set_keys key (N, of, in_set_law, e) = ⊎_elim (λ o. inl (N, of, o, e)) (λ d. inr (e ∙ ap (λ (M : ℕ). key_of slot M) d)) ((ins.members N).0 in_set_law)

        -- the mask was in the set
        pub turned_there : (T new → ⊥) → Turned a round room buckets₀ rows table R rows table buckets solved'
        turned_there old-one =
            record {
              grew =
                  grew_must (Given w.p ks) round room n rows table₀ buckets₀ table buckets (SetKeys w.S slot solved) (SetKeys w.S slot solved')
                  (λ key k. ⊎_elim (λ o. o) (λ e. (R, of_shape, was_in, e)) (set_keys key k)) g.grew;
              there = g.grew.all (key_of slot R) (R, of_shape, was_in, refl);
              keeps = λ key m. m;
            }
          where
            was_in : InSet solved R
            was_in = was_there solved solved' R new ins old-one

        module _ (r : ℕ) (table' buckets' : List ℕ) (added : Added table buckets rows room round slot R r table' buckets') (l : length table' ≡ length table) where
          given : Given w.p ks (key_of slot R)
          given = solution_given w mask a.q a.passes (mask_at table₀ (link - 1)) R its_call here

          one : Stepped (Given w.p ks) round room rows table buckets (λ key. key ≡ key_of slot R) r table' buckets'
          one = added_stepped (Given w.p ks) round room rows slot R r table buckets table' buckets' g.grew.writable given added l

          abbrev Both : ℕ → Type 0
          Both key = SetKeys w.S slot solved key ⊎ (key ≡ key_of slot R)

          both : Stepped (Given w.p ks) round room n table₀ buckets₀ Both r table' buckets'
          both =
              stepped_then (Given w.p ks) round room n rows r table₀ buckets₀ table buckets table' buckets' (SetKeys w.S slot solved) (λ key. key ≡ key_of slot R) g.grew one

          -- no room for the row
          pub going_full : {Must : ℕ → Type 0} → room < r → Stepped (Given w.p ks) round room n table₀ buckets₀ Must r table' buckets'
          going_full past = inr (stepped_past (Given w.p ks) round room n r table₀ buckets₀ table' buckets' Both both past)

          -- the row was added
          pub turned_new : r ≤ room → Turned a round room buckets₀ rows table R r table' buckets' solved'
          turned_new within =
              record {
                grew = grew_must (Given w.p ks) round room n r table₀ buckets₀ table' buckets' Both (SetKeys w.S slot solved') set_keys
                    (stepped_within (Given w.p ks) round room n r table₀ buckets₀ table' buckets' Both both within);
                there = step.all (key_of slot R) refl;
                keeps = behind_keeps (keys_of table rows) (Given w.p ks) (keys_of table' r) step.behind;
              }
            where
              step : Grew (Given w.p ks) round room rows table buckets (λ key. key ≡ key_of slot R) r table' buckets'
              step = stepped_within (Given w.p ks) round room rows r table buckets table' buckets' (λ key. key ≡ key_of slot R) one within

        module _ (r : ℕ) (table' buckets' : List ℕ) (t : Turned a round room buckets₀ rows table R r table' buckets' solved') where
          pub turned_read : row_size * (link - 1) + 4 < length table'
          turned_read = omega (arith, going_row, w.chains.fits, t.grew.same_length)

          still : (x : ℕ) → SolvedRow table₀ slot mask table rows x → SolvedRow table₀ slot mask table' r x
          still x d = record { R = d.R; together = d.together; there = t.keeps (key_of slot d.R) d.there }

          before_same : before_at table' (link - 1) ≡ before_at table₀ (link - 1)
          before_same = t.grew.same_rows (row_size * (link - 1) + 3) (omega (arith, going_row))

          pub going_on : (next : ℕ) → next ≡ before_at table' (link - 1) → At next r table' buckets' solved'
          going_on next e =
              record {
                grew = t.grew;
                walked = rw (e, before_same)
                    (chain_goes_on (slot_at table₀) (before_at table₀) w.heads old w.chains.by_slot w.s (SolvedRow table₀ slot mask table' r) link
                    (walked_same (slot_at table₀) (slot_at table₀) w.s old link (SolvedRow table₀ slot mask table rows) (SolvedRow table₀ slot mask table' r) (λ x b. refl) (λ x b. still x) g.walked)
                    h (record { R = R; together = here; there = t.there }));
                put = put_more;
              }

          pub going_falls : (next : ℕ) → next ≡ before_at table' (link - 1) → next < link
          going_falls next e =
              rw (e, before_same) (chain_falls (slot_at table₀) (before_at table₀) w.heads old w.chains.by_slot w.s _ link g.walked h)

    -- where the walk ends every call row from row `from` on has its solution row
    pub going_ends : (from : ℕ) → link ≤ from
        → Stepped (Given w.p ks) round room n table₀ buckets₀ (λ key. Keyed w.p (SolvedBy w from a.q) key ⊎ SetKeys w.S slot solved key) rows table buckets
    going_ends from end = inl
        (record {
          writable = g.grew.writable;
          more = g.grew.more;
          same_rows = g.grew.same_rows;
          same_length = g.grew.same_length;
          rounds = g.grew.rounds;
          behind = g.grew.behind;
          all = λ key. ⊎_elim (λ (row, by, e). Memᴰ.cast (e ∙ ap (row_key w.p) by.is) (of by)) (g.grew.all key);
        })
      where
        of : {row : Row ℕ} (by : SolvedBy w from a.q row) → Memᴰ (row_key w.p (solution w.s by.R)) (keys_of table rows)
        of by =
            let (r, b, e, m) = in_slot w.p table₀ w.heads since old w.chains old (call w.s by.C) (omega arith) by.there.0 in
            let behind-link : link ≤ r = omega (arith, late_row w.p table₀ from old r w.s by.C e m by.there) in
            let done = g.walked.done r behind-link b e in
            let same = pass_unique (passes_own w mask a.q a.passes by.C done.R (rw m at done.together)) by.passed in
            Memᴰ.cast (sym (solution_key w by.R) ∙ ap (λ (R : ℕ). key_of slot R) (sym same)) done.there
