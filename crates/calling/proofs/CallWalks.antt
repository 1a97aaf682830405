-- A walk along the call rows of a shape, newest first, that adds rows for the first body atom of a clause.
use Prim.Native.Nat.{ℕ, suc, ◌+◌, ◌*◌, ◌≤◌, ◌<◌}
use native.Mathlib.Omega.{arith}
use mathlib.Core.Path.{◌≡◌, sym, subst, ◌∙◌}
use mathlib.Core.Logic.{◌⊎◌, inl, inr, ⊎_elim}
use mathlib.Core.List.{List}
use lib.ListN.{length}
use Rattle.terms.specs.Mask.{Marks}
use Rattle.marks.specs.Modes.{modes}
use Rattle.marks.specs.Passing.{MarkedIn}
use Rattle.program.specs.Program.{Program}
use Rattle.program.specs.Limits.{row_size}
use Rattle.rows.specs.Rows.{slot_at, mask_at, before_at, keys_of}
use Rattle.rows.proofs.Adding.{same_mask}
use Rattle.table.specs.Rules.{Reached}
use Rattle.table.specs.RoundKeys.{Keyed}
use Rattle.steps.specs.Steps.{Given, RowsIn, Writable, Grew, Stepped, Emitted}
use Rattle.calling.specs.Calls.{OpenedBy, OpenedFrom, Emits, EmitAsked}
use Rattle.steps.proofs.Stepping.{keys_stay, grew_none, grew_must, stepped_then, stepped_within, stepped_past}
use Rattle.calling.proofs.CallRows.{calls_newest, call_before, row_there, call_reached, opened_none, opened_next, opened_all}

module _ {dir order table sets : List ℕ} {count newest here there since rows j : ℕ} (a : EmitAsked dir order table sets count newest here there since rows j)
    (number room n : ℕ) (buckets : List ℕ) where
  abbrev p : Program
  p = a.place.p

  abbrev k : ℕ
  k = a.place.k

  -- marks of the rows from the link on
  abbrev From : ℕ → ℕ → Type 0
  From link = OpenedFrom p table since rows k a.calls.s link

  -- the walk has come to the link, and what the rows behind it give is there
  pub record Walking (link n' : ℕ) (table' buckets' : List ℕ) : Type 0 where
    pub within : link ≤ rows
    pub own : (r : ℕ) → suc r ≡ link → slot_at table r ≡ a.calls.s
    pub grew : Grew (Given p (keys_of table rows)) number room n table buckets (Emits p k a.place.i (From link)) n' table' buckets'

  pub walking_begins : Writable table buckets n room → Walking newest n table buckets
  walking_begins w =
      let l = calls_newest a.calls in
      record {
        within = l.within;
        own = l.own;
        grew = grew_none (Given p (keys_of table rows)) number room n table buckets _ w (λ key (N, o, _). absurd (opened_none a.calls N o));
      }

  module _ (behind : rows ≤ n) {link n' : ℕ} {table' buckets' : List ℕ} (w : Walking link n' table' buckets') (row : ℕ) (at : suc row ≡ link) where
    row_below : row < rows
    row_below = omega (arith, w.within)

    pub walking_there : row_size * row + 4 < length table'
    walking_there = rw w.grew.same_length (row_there a.calls row row_below)

    row_falls : before_at table row < link
    row_falls = let l = (call_before a.calls row row_below).within in omega arith

    module _ (q : ℕ) (new : since ≤ row) (passes : Marks (MarkedIn sets 0 (mask_at table' row) here 16 0 there) q) where
      passes_first : Marks (MarkedIn sets 0 (mask_at table row) here 16 0 there) q
      passes_first =
          rw (same_mask table table' n w.grew.same_rows row (let l = row_below in omega arith)) at passes

      keys_kept : keys_of table' rows ≡ keys_of table rows
      keys_kept = keys_stay table table' n rows behind w.grew.same_rows

      -- the rules reach the marks of the row
      pub walking_reached : Reached modes p (RowsIn p (keys_of table' rows)) k a.place.i q
      walking_reached =
          rw keys_kept
          (subst (λ (i : ℕ). Reached modes p (RowsIn p (keys_of table rows)) k i q) (sym a.is_first)
          (call_reached a.calls row q row_below (w.own row at) passes_first))

      module _ {n'' : ℕ} {table'' buckets'' : List ℕ}
          (s : Stepped (Given p (keys_of table' rows)) number room n' table' buckets' (Keyed p (Emitted p k a.place.i q)) n'' table'' buckets'') where
        both : Stepped (Given p (keys_of table rows)) number room n table buckets
            (λ key. Emits p k a.place.i (From link) key ⊎ Keyed p (Emitted p k a.place.i q) key) n'' table'' buckets''
        both =
            stepped_then (Given p (keys_of table rows)) number room n n' n'' table buckets table' buckets' table'' buckets'' _ _ w.grew
            (subst (λ (ks : List ℕ). Stepped (Given p ks) number room n' table' buckets' (Keyed p (Emitted p k a.place.i q)) n'' table'' buckets'') keys_kept s)

        -- no room is left
        pub walking_full : room < n'' → (Must : ℕ → Type 0) → Stepped (Given p (keys_of table rows)) number room n table buckets Must n'' table'' buckets''
        walking_full l Must = inr (stepped_past (Given p (keys_of table rows)) number room n n'' table buckets table'' buckets'' _ both l)

        grown : n'' ≤ room → Grew (Given p (keys_of table rows)) number room n table buckets
            (λ key. Emits p k a.place.i (From link) key ⊎ Keyed p (Emitted p k a.place.i q) key) n'' table'' buckets''
        grown l = stepped_within (Given p (keys_of table rows)) number room n n'' table buckets table'' buckets'' _ both l

        -- the row before is nearer to the end
        pub walking_nearer : n'' ≤ room → (next : ℕ) → next ≡ before_at table'' row → next < link
        walking_nearer l next e = rw (e ∙ (grown l).same_rows (row_size * row + 3) (let m = row_below in omega arith)) row_falls

        -- on to it
        pub walking_on : n'' ≤ room → (next : ℕ) → next ≡ before_at table'' row → Walking next n'' table'' buckets''
        walking_on l next e =
            record {
              within = let f = walking_nearer l next e in omega (arith, w.within);
              own = λ r i. (call_before a.calls row row_below).own r (i ∙ before) ∙ w.own row at;
              grew = grew_must (Given p (keys_of table rows)) number room n n'' table buckets table'' buckets'' _ _ all (grown l);
            }
          where
            before : next ≡ before_at table row
            before = e ∙ (grown l).same_rows (row_size * row + 3) (let m = row_below in omega arith)

            all : (key : ℕ) → Emits p k a.place.i (From next) key → Emits p k a.place.i (From link) key ⊎ Keyed p (Emitted p k a.place.i q) key
            all key (N, o, given) =
                ⊎_elim (λ o'. inl (N, o', given)) (λ i. inr (subst (λ (x : ℕ). Keyed p (Emitted p k a.place.i x) key) i given))
                ((opened_next a.calls link row next q at new row_below (w.own row at) before passes_first N).0 o)

  -- at the rows of earlier rounds all is done
  pub walking_ends : {link n' : ℕ} {table' buckets' : List ℕ} → Walking link n' table' buckets' → link ≤ since
      → Stepped (Given p (keys_of table rows)) number room n table buckets (Emits p k a.place.i (OpenedBy p table since rows k a.calls.s)) n' table' buckets'
  walking_ends {link} {n'} {table'} {buckets'} w l =
      inl (grew_must (Given p (keys_of table rows)) number room n n' table buckets table' buckets' _ _
      (λ key (N, o, given). (N, (opened_all a.calls link l N).1 o, given)) w.grew)
