-- Rule 2 at one place: a place before another gives rows for the next atom, a last place marks on the head.
use Prim.Native.Nat.{ℕ, suc, ◌+◌, ◌<◌}
use native.Mathlib.Omega.{arith}
use mathlib.Core.Path.{◌≡◌, sym, subst, ◌∙◌}
use mathlib.Core.Logic.{⊎_elim}
use mathlib.Core.List.Memᴰ
use mathlib.Core.List.{List, [], Memᴰ}
use lib.ListN.{length, get_or}
use Rattle.terms.specs.Term.{Occ}
use Rattle.terms.specs.Mask.{Has, Marks}
use Rattle.marks.specs.Modes.{modes, KeptTo, InOrder}
use Rattle.marks.proofs.RowMasks.{kept_by_list}
use Rattle.program.specs.Program.{Nth, Program}
use Rattle.program.specs.Shapes.{number}
use Rattle.program.specs.Faults.{sound}
use Rattle.program.specs.Limits.{max_bodies}
use Rattle.program.proofs.ShapeLaws.{nth_same}
use Rattle.rows.specs.Rows.{mask_at, keys_of}
use Rattle.table.specs.NewRows.{NewReached, NewGoesOn}
use Rattle.table.specs.RoundKeys.{Keyed}
use Rattle.table.specs.Keys.{first_cont}
use Rattle.table.proofs.Keys.{index_same}
use Rattle.table.proofs.NewRows.{new_reached}
use Rattle.steps.specs.Situation.{Setting, Situation, BodyOf, Place, MiddleAsked, LastAsked}
use Rattle.steps.specs.Steps.{Given, RowsIn, Writable, Stepped}
use Rattle.steps.specs.Heads.{HeadMark, Collected}
use Rattle.joining.specs.Joined.{ContMarks, RowsOf, KeptOf, Among, ContsAsked, ContsThere, Answered}
use Rattle.joining.specs.Bodies.{BodyIn}
use Rattle.steps.proofs.Bodies.{body_few}
use Rattle.steps.proofs.Stepping.{stepped_none, stepped_must}
use Rattle.steps.proofs.Emitting.{goes_emitted}
use Rattle.joining.proofs.Joining.{joined_among}
use Rattle.steps.proofs.MarkedSets.{marked_same}
use Rattle.joining.proofs.PlaceAnswers.{place_chain, place_slot, conts_reach}

-- a number has one body atom, whichever way the program and the atom are found
pub one_body : (p : Program) {j : ℕ} (b b' : BodyOf p j) → (b.c ≡ b'.c) × (b.i ≡ b'.i)
one_body p b b' =
    let (k, i) = index_same p b.nth_clause b.nth_atom b'.nth_clause b'.nth_atom (sym b.is ∙ b'.is) in
    (nth_same (rw k at b.nth_clause) b'.nth_clause, i)

pub same_body : {words dir : List ℕ} {p p' : Program} {j : ℕ} → Setting words dir p → Setting words dir p' → (b : BodyOf p j) (b' : BodyOf p' j) → (b.c ≡ b'.c) × (b.i ≡ b'.i)
same_body {p = p} {p' = p'} {j = j} s s' b b' =
    let both : sound p ≡ sound p' = sym s.accepted ∙ s'.accepted in
    let e : p ≡ p' = cc in
    subst (λ (x : Program). (a : BodyOf x j) → (b.c ≡ a.c) × (b.i ≡ a.i)) e (one_body p b) b'

module _ {words dir table heads : List ℕ} {since rows j : ℕ} (w : Situation words dir table heads since rows) (b : BodyOf w.p j) where
  -- the place's slot is one of those that have heads
  pub slot_there : (first_cont + j < length heads) × (j < max_bodies)
  slot_there = (rw w.chains.all_heads (place_slot w b), let few = body_few w.setting b.nth_clause b.nth_atom in let e = b.is in omega arith)

  -- marks that come past it with a new row
  abbrev pub Made : ℕ → Type 0
  Made N = NewReached modes w.p (RowsIn w.p (keys_of table since)) (RowsIn w.p (keys_of table rows)) b.k (suc b.i) N

  -- marks on the head
  pub no_head_marks : ((N : ℕ) → Made N → ⊥) → (q : ℕ) → HeadMark w.p table since rows b.k (suc b.i) q → ⊥
  no_head_marks none q h = none h.N h.reached

  module _ {fresh all : List ℕ} (among : Among fresh all) where
    abbrev pub conts_there : ContsThere table fresh all (get_or heads (first_cont + j) 0)
    conts_there = record { slot = first_cont + j; rows = rows; chain = place_chain w b; among = among }

    module _ (a : Answered w.p table b.A since rows (get_or heads (first_cont + j) 0) fresh all) where
      -- no answer, and nothing made
      pub no_answer : all ≡ [] → (N : ℕ) → Made N → ⊥
      no_answer none N reached =
          let (r, f, l, e, d) = (conts_reach w b fresh all a N).1 reached in
          let (q, m, t) = ⊎_elim (joined_among (mask_at table r) N among) (λ x. x.1) d in
          Memᴰ.not-nil (subst (Memᴰ q) none m)

      pub head_marked : {head : ℕ} {found found' : List ℕ} → LastAsked words dir table heads since rows j head
          → Collected (KeptOf head (ContMarks table fresh all (first_cont + j) rows since 0)) found found'
          → Collected (HeadMark w.p table since rows b.k (suc b.i)) found found'
      head_marked {head} {found} {found'} m =
          marked_same found found'
          (λ q. (
            λ (N, made, k).
                record { c = b.c; nth_clause = b.nth_clause; N = N; reached = (conts_reach w b fresh all a N).0 made; kept = kept_by_list head N q variables k },
            λ h. (h.N, (conts_reach w b fresh all a h.N).1 h.reached, back h.N q (rw (nth_same h.nth_clause b.nth_clause) at h.kept)),
          ))
        where
          variables : Marks (λ v. Occ v b.c.head) head
          variables = rw (same_body m.situation.setting w.setting m.body b).0 at m.head_variables

          back : (N q : ℕ) → KeptTo (λ v. Occ v b.c.head) N q → KeptTo (Has head) N q
          back N q k v = (λ x. let y = (k v).0 x in ((variables v).1 y.0, y.1), λ y. (k v).1 ((variables v).0 y.0, y.1))

  module _ (m : MiddleAsked words dir table heads since rows j) where
    -- the next atom
    pub next_atom : Nth b.c.body (suc b.i) m.next
    next_atom = let (e, f) = same_body m.situation.setting w.setting m.body b in rw (e, f) at m.nth_next

    -- it is a body atom of its own
    abbrev pub next_body : BodyIn words dir (j + 1)
    next_body =
        record {
          p = w.p;
          setting = w.setting;
          body =
              record {
                k = b.k;
                i = suc b.i;
                c = b.c;
                A = m.next;
                nth_clause = b.nth_clause;
                nth_atom = next_atom;
                is = let f = b.is in omega arith;
              };
        }

    abbrev pub next_place : {order : List ℕ} {count : ℕ} → InOrder m.next (number m.next) order count → Place dir order count (j + 1)
    next_place o =
        record {
          words = words;
          p = w.p;
          setting = w.setting;
          k = b.k;
          i = suc b.i;
          c = b.c;
          A = m.next;
          nth_clause = b.nth_clause;
          nth_atom = next_atom;
          is = next_body.body.is;
          in_order = o;
        }

  -- rows for the next atom
  abbrev NextKeys : ℕ → Type 0
  NextKeys = Keyed w.p (NewGoesOn modes w.p (RowsIn w.p (keys_of table since)) (RowsIn w.p (keys_of table rows)) b.k (suc b.i))

  pub no_next_rows : {round room n : ℕ} {buckets : List ℕ} → Writable table buckets n room → ((N : ℕ) → Made N → ⊥)
      → Stepped (Given w.p (keys_of table rows)) round room n table buckets NextKeys n table buckets
  no_next_rows {round} {room} {n} {buckets} writable none =
      stepped_none (Given w.p (keys_of table rows)) round room n table buckets NextKeys writable (λ key (row, (N, made, goes), e). absurd (none N made))

  module _ {newest : ℕ} (newest_is : newest ≡ get_or heads (first_cont + j) 0) {fresh all : List ℕ} (among : Among fresh all)
      (a : Answered w.p table b.A since rows newest fresh all) where
    pub all_answered : Answered w.p table b.A since rows (get_or heads (first_cont + j) 0) fresh all
    all_answered = rw newest_is at a

    module _ (m : MiddleAsked words dir table heads since rows j) {order : List ℕ} {count : ℕ} (o : InOrder m.next (number m.next) order count) where
      abbrev pub conts_asked : ContsAsked dir order table fresh all count rows newest since (j + 1)
      conts_asked =
          record {
            slot = first_cont + j;
            chain = rw newest_is (place_chain w b);
            among = among;
            reaching =
                record {
                  place = next_place m o;
                  reached = λ N made.
                      new_reached modes w.p (RowsIn w.p (keys_of table since)) (RowsIn w.p (keys_of table rows)) b.k (suc b.i) N
                      ((conts_reach w b fresh all all_answered N).0 made);
                };
          }

      pub next_rows : {round room n n' : ℕ} {buckets table' buckets' : List ℕ}
          → ((x : ContsAsked dir order table fresh all count rows newest since (j + 1))
          → Stepped (Given x.reaching.place.p (keys_of table rows)) round room n table buckets
          (RowsOf x.reaching.place.p x.reaching.place.k x.reaching.place.i (ContMarks table fresh all x.slot rows since 0)) n' table' buckets')
          → Stepped (Given w.p (keys_of table rows)) round room n table buckets NextKeys n' table' buckets'
      next_rows {round} {room} {n} {n'} {buckets} {table'} {buckets'} step =
          stepped_must (Given w.p (keys_of table rows)) round room n n' table buckets table' buckets' _ NextKeys
          (λ key (row, (N, made, goes), e). (N, (conts_reach w b fresh all all_answered N).1 made, (row, goes_emitted goes, e))) (step conts_asked)
