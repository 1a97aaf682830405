-- Sets of marks on a clause's head: one mark more, and a walk along the call rows of a shape, newest first, that puts in what they pass.
use Prim.Native.Nat.{ℕ, suc, ◌+◌, ◌*◌, ◌≤◌, ◌<◌}
use native.Mathlib.Omega.{arith}
use mathlib.Core.Path.{◌≡◌, ◌∙◌}
use mathlib.Core.Bool.{Bool}
use mathlib.Core.Logic.{◌⊎◌, ◌↔◌}
use mathlib.Core.List.{List}
use lib.ListN.{length}
use Rattle.terms.specs.Mask.{Marks}
use Rattle.marks.specs.Passing.{MarkedIn}
use Rattle.program.specs.Limits.{row_size}
use Rattle.rows.specs.Rows.{slot_at, mask_at, before_at}
use Rattle.rows.specs.MaskSet.{set_words, Inserted}
use Rattle.steps.specs.Heads.{Collected}
use Rattle.calling.specs.Calls.{OpenedBy, OpenedFrom, MarkAsked}
use Rattle.steps.proofs.MarkedSets.{marked_same, marked_none, marked_then, marked_one}
use Rattle.calling.proofs.CallRows.{calls_newest, call_before, row_there, opened_none, opened_next, opened_all}

module _ {table sets : List ℕ} {newest here there since : ℕ} (a : MarkAsked table sets newest here there since) (found : List ℕ) where
  -- the marks of the rows from the link on
  abbrev From : ℕ → ℕ → Type 0
  From link = OpenedFrom a.p table since a.rows a.k a.calls.s link

  -- the walk has come to the link, and the marks of the rows behind it are in the set
  pub record Marking (link : ℕ) (found' : List ℕ) : Type 0 where
    pub within : link ≤ a.rows
    pub own : (r : ℕ) → suc r ≡ link → slot_at table r ≡ a.calls.s
    pub marked : Collected (From link) found found'

  pub marking_begins : length found ≡ set_words → Marking newest found
  marking_begins size =
      let l = calls_newest a.calls in
      record { within = l.within; own = l.own; marked = marked_none found size (opened_none a.calls) }

  module _ {link : ℕ} {found' : List ℕ} (w : Marking link found') (row : ℕ) (at : suc row ≡ link) where
    row_below : row < a.rows
    row_below = omega (arith, w.within)

    pub marking_there : row_size * row + 4 < length table
    marking_there = row_there a.calls row row_below

    pub marking_nearer : (next : ℕ) → next ≡ before_at table row → next < link
    marking_nearer next e = rw e (let l = (call_before a.calls row row_below).within in omega arith)

    pub marking_on : (q next : ℕ) (b : Bool) (found'' : List ℕ) → since ≤ row → Marks (MarkedIn sets 0 (mask_at table row) here 16 0 there) q
        → length found'' ≡ length found' → Inserted found' found'' q b → next ≡ before_at table row → Marking next found''
    marking_on q next b found'' new passes l i e =
        record {
          within = let f = marking_nearer next e in omega (arith, w.within);
          own = λ r j. (call_before a.calls row row_below).own r (j ∙ e) ∙ w.own row at;
          marked = marked_same found found'' same (marked_then found found' found'' w.marked (marked_one found' found'' q b (l ∙ w.marked.size) i));
        }
      where
        same : (N : ℕ) → (From link N ⊎ (N ≡ q)) ↔ From next N
        same N = let o = opened_next a.calls link row next q at new row_below (w.own row at) e passes N in (o.1, o.0)

  pub marking_ends : {link : ℕ} {found' : List ℕ} → Marking link found' → link ≤ since
      → Collected (OpenedBy a.p table since a.rows a.k a.calls.s) found found'
  marking_ends {link} {found'} w l = marked_same found found' (opened_all a.calls link l) w.marked
