-- The steps of the loops over answers and over cont rows: what they have given so far, and that the rules reach it.
use Prim.Native.Nat.{ℕ, suc, ◌+◌, ◌-◌, ◌*◌, ◌≤◌, ◌<◌}
use native.Mathlib.Omega.{arith}
use mathlib.Core.Path.{◌≡◌, refl, sym, subst, ◌∙◌}
use mathlib.Core.Bool.{Bool}
use mathlib.Core.Logic.{◌⊎◌, inl, inr, ⊎_elim, ◌↔◌}
use mathlib.Core.List.{List}
use lib.ListN.{length, get_or, take, replicate}
use lib.Seq.{take_all}
use Rattle.terms.specs.Mask.{Has}
use Rattle.marks.specs.Modes.{modes, Together, KeptTo}
use Rattle.program.specs.Limits.{row_size}
use Rattle.rows.specs.Rows.{slot_at, mask_at, before_at, keys_of}
use Rattle.rows.proofs.Adding.{same_mask}
use Rattle.rows.specs.MaskSet.{set_words, InSet, Inserted}
use Rattle.rows.proofs.MaskSets.{none_in_zeros}
use Rattle.table.specs.Rules.{Reached}
use Rattle.table.specs.RoundKeys.{Keyed}
use Rattle.steps.specs.Situation.{Place}
use Rattle.steps.specs.Steps.{Given, RowsIn, Writable, Grew, Stepped, Emitted}
use Rattle.steps.specs.Heads.{Collected}
use Rattle.joining.specs.Joined.{JoinedWith, Had, Due, Turn, ContMarks, RowsOf, KeptOf, JoinAsked, Among, ContsAsked, ContsThere}
use Rattle.steps.proofs.Stepping.{keys_stay, grew_none, grew_must, stepped_within}
use Rattle.steps.proofs.MarkedSets.{marked_same, marked_none, marked_one, marked_then}
use Rattle.joining.proofs.Joining.{joined_none, joined_more, first_among, joined_among, due_new, due_old, marks_begin, next_falls, next_own, next_marks, rows_more, rows_one, kept_split, kept_one}

-- one answer more was put into the set, whether it was there or not
pub had_more : (seen₀ : List ℕ) {seen seen' : List ℕ} (mask : ℕ) (answers : List ℕ) {x N : ℕ} {new : Bool} → x < length answers → Together mask (get_or answers x 0) N
    → Inserted seen seen' N new → ((q : ℕ) → InSet seen q → Had seen₀ mask (take x answers) q) → (q : ℕ) → InSet seen' q → Had seen₀ mask (take (x + 1) answers) q
had_more seen₀ mask answers {x = x} {N = N} less joined ins had q h =
    ⊎_elim
    (λ o. ⊎_elim inl (λ m. inr ((joined_more mask answers x N less joined q).1 (inl m))) (had q o))
    (λ e. inr ((joined_more mask answers x N less joined q).1 (inr e)))
    ((ins.members q).0 h)

-- marks made by the answers passed are made by all
pub had_all : (seen : List ℕ) (mask : ℕ) (answers : List ℕ) (x : ℕ) (seen' : List ℕ) → ((q : ℕ) → InSet seen' q → Had seen mask (take x answers) q)
    → (q : ℕ) → InSet seen' q → Had seen mask answers q
had_all seen mask answers x seen' had q h = ⊎_elim inl (λ m. inr (joined_among mask q (first_among x answers) m)) (had q h)

-- rows that are there, by other names of their number and of the table
pub grew_as : {May : ℕ → Type 0} {round room n n' n'' : ℕ} {table table' table'' buckets buckets' buckets'' : List ℕ} {Must : ℕ → Type 0} → n' ≡ n'' → table' ≡ table'' → buckets' ≡ buckets''
    → Grew May round room n table buckets Must n'' table'' buckets'' → Grew May round room n table buckets Must n' table' buckets'
grew_as e t b g = rw e (rw t (rw b g))

module _ {dir order table answers seen : List ℕ} {count rows j mask n : ℕ} (w : JoinAsked dir order table answers seen count rows j mask n) where
  -- the rows of the marks in the set, and of those that the first x answers make, are there
  abbrev pub AnswersGrew : List ℕ → ℕ → ℕ → ℕ → ℕ → List ℕ → List ℕ → Type 0
  AnswersGrew buckets round room x n' table' buckets' =
      Grew (Given w.reaching.place.p (keys_of table rows)) round room n table buckets (RowsOf w.reaching.place.p w.reaching.place.k w.reaching.place.i (Had seen mask (take x answers))) n' table' buckets'

module _ {dir order table answers seen : List ℕ} {count rows j mask n : ℕ} (w : JoinAsked dir order table answers seen count rows j mask n) {buckets : List ℕ} {round room : ℕ} where
  -- no answer yet
  pub answers_begin : Writable table buckets n room → AnswersGrew w buckets round room 0 n table buckets
  answers_begin writable =
      grew_none (Given w.reaching.place.p (keys_of table rows)) round room n table buckets _ writable
      (λ key (N, m, e). ⊎_elim (λ s. w.seen_there key (N, s, e)) (λ o. absurd (joined_none mask answers N o)) m)

  -- all answers
  pub answers_end : {x n' : ℕ} {table' buckets' : List ℕ} → length answers ≤ x → AnswersGrew w buckets round room x n' table' buckets'
      → Grew (Given w.reaching.place.p (keys_of table rows)) round room n table buckets (RowsOf w.reaching.place.p w.reaching.place.k w.reaching.place.i (JoinedWith mask answers)) n' table' buckets'
  answers_end {x} {n'} {table'} {buckets'} done =
      grew_must (Given w.reaching.place.p (keys_of table rows)) round room n n' table buckets table' buckets' _ _ (λ key (N, m, k). (N, inr (rw (take_all x answers done) m), k))

  -- one answer more
  module _ {x : ℕ} (N : ℕ) {n' : ℕ} {table' buckets' : List ℕ} (less : x < length answers) (joined : Together mask (get_or answers x 0) N) (g : AnswersGrew w buckets round room x n' table' buckets') where
    more : (N' : ℕ) → JoinedWith mask (take (x + 1) answers) N' ↔ (JoinedWith mask (take x answers) N' ⊎ (N' ≡ N))
    more = joined_more mask answers x N less joined

    had_split : (N' : ℕ) → Had seen mask (take (x + 1) answers) N' → Had seen mask (take x answers) N' ⊎ (N' ≡ N)
    had_split N' = ⊎_elim (λ s. inl (inl s)) (λ m. ⊎_elim (λ o. inl (inr o)) inr ((more N').0 m))

    -- its marks gave their rows before
    pub answer_had : Had seen mask (take x answers) N → AnswersGrew w buckets round room (x + 1) n' table' buckets'
    answer_had had =
        grew_must (Given w.reaching.place.p (keys_of table rows)) round room n n' table buckets table' buckets' _ _
        (λ key (N', m, k). (N', ⊎_elim (λ o. o) (λ e. rw e had) (had_split N' m), k)) g

    -- its marks give their rows now
    pub answer_emitted : {n'' : ℕ} {table'' buckets'' : List ℕ} → rows ≤ n
        → ((v : Place dir order count j) → Reached modes v.p (RowsIn v.p (keys_of table' rows)) v.k v.i N
        → Stepped (Given v.p (keys_of table' rows)) round room n' table' buckets' (Keyed v.p (Emitted v.p v.k v.i N)) n'' table'' buckets'')
        → Stepped (Given w.reaching.place.p (keys_of table rows)) round room n table buckets
        (RowsOf w.reaching.place.p w.reaching.place.k w.reaching.place.i (Had seen mask (take (x + 1) answers))) n'' table'' buckets''
    answer_emitted {n''} {table''} {buckets''} enough emitted =
        let v = w.reaching.place in
        let p = v.p in
        let same = keys_stay table table' n rows enough g.same_rows in
        let reached = w.reaching.reached N (joined_among mask N (first_among (x + 1) answers) ((more N).1 (inr refl))) in
        let now = emitted v (subst (λ (ks : List ℕ). Reached modes p (RowsIn p ks) v.k v.i N) (sym same) reached) in
        rows_more p (keys_of table rows) round room v.k v.i n n' n'' table buckets table' buckets' table'' buckets''
        (Had seen mask (take x answers)) (λ N'. N' ≡ N) (Had seen mask (take (x + 1) answers)) had_split g
        (rows_one p (keys_of table rows) round room v.k v.i n' n'' table' buckets' table'' buckets'' N
        (subst (λ (ks : List ℕ). Stepped (Given p ks) round room n' table' buckets' (Keyed p (Emitted p v.k v.i N)) n'' table'' buckets'') same now))

-- one answer more into the set
pub answer_marked : (mask : ℕ) (answers : List ℕ) (there N : ℕ) {x K : ℕ} {new : Bool} {found found' found'' : List ℕ} → x < length answers → Together mask (get_or answers x 0) N
    → KeptTo (Has there) N K → length found'' ≡ set_words → Inserted found' found'' K new → Collected (KeptOf there (JoinedWith mask (take x answers))) found found'
    → Collected (KeptOf there (JoinedWith mask (take (x + 1) answers))) found found''
answer_marked mask answers there N {x} {K} {new} {found} {found'} {found''} less joined kept size ins m =
    let split = kept_split there (JoinedWith mask (take x answers)) (λ N'. N' ≡ N) (JoinedWith mask (take (x + 1) answers)) (joined_more mask answers x N less joined) in
    marked_same found found'' (λ q. ((split q).1, (split q).0))
    (marked_then found found' found'' m (marked_same found' found'' (kept_one there N K kept) (marked_one found' found'' K new size ins)))

-- what it makes with them is due
pub turn_due : (fresh all : List ℕ) (since r : ℕ) (due : List ℕ) → Among fresh all → Turn fresh all since r due → (M N : ℕ) → Due M fresh all since r N ↔ JoinedWith M due N
turn_due fresh all since r due among turn M N =
    ⊎_elim
    (λ (l, e). subst (λ (x : List ℕ). Due M fresh all since r N ↔ JoinedWith M x N) (sym e) (due_new M fresh all since r N among l))
    (λ (l, e). subst (λ (x : List ℕ). Due M fresh all since r N ↔ JoinedWith M x N) (sym e) (due_old M fresh all since r N l))
    turn

-- the walk over the cont rows has come to the link: the rows behind it have given theirs
pub record ContsWalk {dir order table fresh all : List ℕ} {count rows newest since j : ℕ} (w : ContsAsked dir order table fresh all count rows newest since j)
    (buckets : List ℕ) (round room n link n' : ℕ) (table' buckets' seen : List ℕ) : Type 0 where
  pub within : link ≤ rows
  pub own : (r : ℕ) → suc r ≡ link → slot_at table r ≡ w.slot
  pub grew : Grew (Given w.reaching.place.p (keys_of table rows)) round room n table buckets
      (RowsOf w.reaching.place.p w.reaching.place.k w.reaching.place.i (ContMarks table fresh all w.slot rows since link)) n' table' buckets'
  pub had : (N : ℕ) → InSet seen N → ContMarks table fresh all w.slot rows since link N

module _ {dir order table fresh all : List ℕ} {count rows newest since j : ℕ} (w : ContsAsked dir order table fresh all count rows newest since j)
    {buckets : List ℕ} {round room n : ℕ} where
  pub conts_begin : {seen : List ℕ} → Writable table buckets n room → seen ≡ replicate set_words 0 → ContsWalk w buckets round room n newest n table buckets seen
  conts_begin writable empty =
      record {
        within = w.chain.head.within;
        own = w.chain.head.own;
        grew =
            grew_none (Given w.reaching.place.p (keys_of table rows)) round room n table buckets _ writable
            (λ key (N, m, _). absurd (marks_begin table fresh all w.slot rows newest since w.chain N m));
        had = λ N h. absurd (none_in_zeros set_words N (rw empty at h));
      }

  module _ (enough : rows ≤ n) {link n' : ℕ} {table' buckets' seen : List ℕ} (walk : ContsWalk w buckets round room n link n' table' buckets' seen) (more : 0 < link)
      {due : List ℕ} {mask : ℕ} (turn : Turn fresh all since (link - 1) due) (is : mask ≡ mask_at table' (link - 1)) where
    mask_was : mask ≡ mask_at table (link - 1)
    mask_was = is ∙ same_mask table table' n walk.grew.same_rows (link - 1) (omega (arith, walk.within))

    same : keys_of table' rows ≡ keys_of table rows
    same = keys_stay table table' n rows enough walk.grew.same_rows

    split : (N : ℕ) → ContMarks table fresh all w.slot rows since (before_at table (link - 1)) N
        → ContMarks table fresh all w.slot rows since link N ⊎ JoinedWith mask due N
    split N m =
        ⊎_elim inl
        (λ d. inr (subst (λ (x : ℕ). JoinedWith x due N) (sym mask_was) ((turn_due fresh all since (link - 1) due w.among turn (mask_at table (link - 1)) N).0 d)))
        ((next_marks table fresh all w.slot rows newest since w.chain link walk.within walk.own more N).0 m)

    joined_due : (N : ℕ) → JoinedWith mask due N → Due (mask_at table (link - 1)) fresh all since (link - 1) N
    joined_due N m = (turn_due fresh all since (link - 1) due w.among turn (mask_at table (link - 1)) N).1 (subst (λ (x : ℕ). JoinedWith x due N) mask_was m)

    joined_there : (N : ℕ) → JoinedWith mask due N → ContMarks table fresh all w.slot rows since 0 N
    joined_there N m = (link - 1, omega arith, omega (arith, walk.within), walk.own (link - 1) (omega arith), joined_due N m)

    pub row_asked : JoinAsked dir order table' due seen count rows j mask n'
    row_asked =
        record {
          reaching =
              record {
                place = w.reaching.place;
                reached = λ N m.
                    let v = w.reaching.place in
                    subst (λ (ks : List ℕ). Reached modes v.p (RowsIn v.p ks) v.k v.i N) (sym same) (w.reaching.reached N (joined_there N m));
              };
          seen_there = λ key (N, m, e). walk.grew.all key (N, walk.had N m, e);
        }

    module _ {n'' : ℕ} {table'' buckets'' : List ℕ}
        (emitted : (v : JoinAsked dir order table' due seen count rows j mask n')
        → Stepped (Given v.reaching.place.p (keys_of table' rows)) round room n' table' buckets' (RowsOf v.reaching.place.p v.reaching.place.k v.reaching.place.i (JoinedWith mask due)) n'' table'' buckets'') where
      pub row_emitted : Stepped (Given w.reaching.place.p (keys_of table rows)) round room n table buckets
          (RowsOf w.reaching.place.p w.reaching.place.k w.reaching.place.i (ContMarks table fresh all w.slot rows since (before_at table (link - 1)))) n'' table'' buckets''
      unfolding row_asked
      row_emitted =
          let v = w.reaching.place in
          rows_more v.p (keys_of table rows) round room v.k v.i n n' n'' table buckets table' buckets' table'' buckets''
          (ContMarks table fresh all w.slot rows since link) (JoinedWith mask due) (ContMarks table fresh all w.slot rows since (before_at table (link - 1)))
          split walk.grew
          (subst (λ (ks : List ℕ). Stepped (Given v.p ks) round room n' table' buckets' (RowsOf v.p v.k v.i (JoinedWith mask due)) n'' table'' buckets'') same (emitted row_asked))

      module _ (fits : n'' ≤ room) where
        grown : Grew (Given w.reaching.place.p (keys_of table rows)) round room n table buckets
            (RowsOf w.reaching.place.p w.reaching.place.k w.reaching.place.i (ContMarks table fresh all w.slot rows since (before_at table (link - 1)))) n'' table'' buckets''
        grown = stepped_within (Given w.reaching.place.p (keys_of table rows)) round room n n'' table buckets table'' buckets'' _ row_emitted fits

        next_was : before_at table'' (link - 1) ≡ before_at table (link - 1)
        next_was = grown.same_rows (row_size * (link - 1) + 3) (omega (arith, walk.within))

        pub row_room : row_size * (link - 1) + 4 < length table''
        row_room = omega (arith, walk.within, w.chain.fits, grown.same_length)

        pub row_falls : before_at table'' (link - 1) < link
        row_falls = rw next_was (next_falls table fresh all w.slot rows newest since w.chain link walk.within walk.own more)

        pub row_done : {seen' : List ℕ} → ((N : ℕ) → InSet seen' N → Had seen mask due N) → ContsWalk w buckets round room n (before_at table'' (link - 1)) n'' table'' buckets'' seen'
        row_done {seen'} had =
            subst (λ (next : ℕ). ContsWalk w buckets round room n next n'' table'' buckets'' seen') (sym next_was)
            (record {
              within = omega (arith, walk.within, next_falls table fresh all w.slot rows newest since w.chain link walk.within walk.own more);
              own = next_own table fresh all w.slot rows newest since w.chain link walk.within walk.own more;
              grew = grown;
              had = λ N h. (next_marks table fresh all w.slot rows newest since w.chain link walk.within walk.own more N).1 (⊎_elim (λ s. inl (walk.had N s)) (λ m. inr (joined_due N m)) (had N h));
            })

-- the same walk for marks on the head
pub record MarksWalk {table fresh all : List ℕ} {newest : ℕ} (w : ContsThere table fresh all newest) (since there : ℕ) (found : List ℕ) (link : ℕ) (found' : List ℕ) : Type 0 where
  pub within : link ≤ w.rows
  pub own : (r : ℕ) → suc r ≡ link → slot_at table r ≡ w.slot
  pub marked : Collected (KeptOf there (ContMarks table fresh all w.slot w.rows since link)) found found'

module _ {table fresh all : List ℕ} {newest : ℕ} (w : ContsThere table fresh all newest) {since there : ℕ} {found : List ℕ} where
  pub marks_walk_begins : length found ≡ set_words → MarksWalk w since there found newest found
  marks_walk_begins size =
      record {
        within = w.chain.head.within;
        own = w.chain.head.own;
        marked = marked_none found size (λ q (N, m, _). marks_begin table fresh all w.slot w.rows newest since w.chain N m);
      }

  module _ {link : ℕ} {found' : List ℕ} (walk : MarksWalk w since there found link found') (more : 0 < link) where
    pub marks_row_room : row_size * (link - 1) + 4 < length table
    marks_row_room = omega (arith, walk.within, w.chain.fits)

    pub marks_row_falls : before_at table (link - 1) < link
    marks_row_falls = next_falls table fresh all w.slot w.rows newest since w.chain link walk.within walk.own more

    pub marks_row_done : {due : List ℕ} {mask : ℕ} {found'' : List ℕ} → Turn fresh all since (link - 1) due → mask ≡ mask_at table (link - 1)
        → Collected (KeptOf there (JoinedWith mask due)) found' found'' → MarksWalk w since there found (before_at table (link - 1)) found''
    marks_row_done {due} {mask} {found''} turn is marked =
        record {
          within = omega (arith, walk.within, marks_row_falls);
          own = next_own table fresh all w.slot w.rows newest since w.chain link walk.within walk.own more;
          marked =
              marked_same found found'' (λ q. ((split q).1, (split q).0))
              (marked_then found found' found'' walk.marked
              (marked_same found' found'' (λ q. (λ (N, m, k). (N, (turned N).1 m, k), λ (N, m, k). (N, (turned N).0 m, k))) marked));
        }
      where
        turned : (N : ℕ) → Due (mask_at table (link - 1)) fresh all since (link - 1) N ↔ JoinedWith mask due N
        turned N = subst (λ (x : ℕ). Due (mask_at table (link - 1)) fresh all since (link - 1) N ↔ JoinedWith x due N) (sym is)
            (turn_due fresh all since (link - 1) due w.among turn (mask_at table (link - 1)) N)

        split : (q : ℕ) → KeptOf there (ContMarks table fresh all w.slot w.rows since (before_at table (link - 1))) q
            ↔ (KeptOf there (ContMarks table fresh all w.slot w.rows since link) q ⊎ KeptOf there (Due (mask_at table (link - 1)) fresh all since (link - 1)) q)
        split = kept_split there (ContMarks table fresh all w.slot w.rows since link) (Due (mask_at table (link - 1)) fresh all since (link - 1)) (ContMarks table fresh all w.slot w.rows since (before_at table (link - 1)))
            (next_marks table fresh all w.slot w.rows newest since w.chain link walk.within walk.own more)
