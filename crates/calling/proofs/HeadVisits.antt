-- The shapes of the predicate of a clause's head, one after the other: the marks that their call rows pass to the head, into a set.
use Prim.Native.Nat.{ℕ, ◌+◌, ◌-◌, ◌≤◌, ◌<◌}
use native.Mathlib.Omega.{arith}
use mathlib.Core.Path.{◌≡◌, subst}
use mathlib.Core.Bool.{Bool, false}
use mathlib.Core.Logic.{◌⊎◌, ⊎_elim, ◌↔◌}
use mathlib.Core.List.{List}
use lib.Dec.{T}
use lib.ListN.{length, get_or}
use Rattle.terms.specs.Term.{Occ}
use Rattle.terms.specs.Mask.{Has, Marks}
use Rattle.terms.proofs.Masks.{has_none}
use Rattle.marks.specs.Modes.{KeptTo}
use Rattle.marks.specs.Passing.{VariablesOf}
use Rattle.marks.proofs.Modes.{kept_unique}
use Rattle.marks.proofs.Passing.{pass_within}
use Rattle.program.specs.Program.{Nth, Clause, Program}
use Rattle.program.specs.Shapes.{shapes}
use Rattle.program.specs.Limits.{max_shapes}
use Rattle.program.proofs.ShapeLaws.{nth_same}
use Rattle.rows.specs.MaskSet.{set_words}
use Rattle.directory.specs.Layout.{clause_head, clause_cells, clause_vars, shape_next, predicate_shape, dir_words}
use Rattle.directory.specs.Directory.{StandsAt, Link, predicate_of}
use Rattle.table.specs.Steps.{opens}
use Rattle.program.proofs.FoundLaws.{sound_same}
use Rattle.steps.specs.Situation.{Situation, ClauseOf, HeadAsked}
use Rattle.steps.specs.Heads.{ReachedSince, HeadMark, Collected, Told}
use Rattle.calling.specs.Calls.{OpenedBy, OpenedBelow, MarkShape}
use Rattle.steps.proofs.ShapeLinks.{shapes_left, next_link, links_fall}
use Rattle.steps.proofs.MarkedSets.{marked_same, marked_none, marked_then}
use Rattle.calling.proofs.ShapeVisits.{clause_in_dir, head_stands, head_variables, first_link, link_few, below_none, below_next, below_all}

-- marks that a call row passes to a head are on the head's variables
pub reached_kept : (p : Program) (table : List ℕ) (since rows : ℕ) {k : ℕ} {c : Clause} → Nth p.clauses k c → (N : ℕ)
    → ReachedSince p table since rows k 0 N → KeptTo (λ v. Occ v c.head) N N
reached_kept p table since rows {k} {c} hc N (s, M, new, opens hc' hs passed) v = (λ h. (within h, h), λ h. h.1)
  where
    within : Has N v → Occ v c.head
    within h =
        subst (λ (d : Clause). Occ v d.head) (nth_same hc' hc)
        (⊎_elim (λ z. absurd (has_none v z)) (λ o. o) (pass_within passed v h))

-- so they are marks on the head, and these are such
pub reached_head : (p : Program) (table : List ℕ) (since rows : ℕ) {k : ℕ} {c : Clause} → Nth p.clauses k c → (q : ℕ)
    → ReachedSince p table since rows k 0 q ↔ HeadMark p table since rows k 0 q
reached_head p table since rows {k} {c} hc q = (to, from)
  where
    to : ReachedSince p table since rows k 0 q → HeadMark p table since rows k 0 q
    to r = record { c = c; nth_clause = hc; N = q; reached = r; kept = reached_kept p table since rows hc q r }

    from : HeadMark p table since rows k 0 q → ReachedSince p table since rows k 0 q
    from m =
        let e : m.N ≡ q = kept_unique (λ v. Occ v m.c.head) m.N m.N q (reached_kept p table since rows m.nth_clause m.N m.reached) m.kept in
        subst (ReachedSince p table since rows k 0) e m.reached

-- the clause, as it was asked for
pub asked_clause : {words dir table heads : List ℕ} {since rows k : ℕ} → HeadAsked words dir table heads since rows k
    → (w : Situation words dir table heads since rows) → ClauseOf w.p k
asked_clause {words} {k = k} a w =
    subst (λ (q : Program). ClauseOf q k) (sound_same _ a.situation.setting.accepted w.setting.accepted) a.clause

module _ {words dir table heads : List ℕ} {since rows k : ℕ} (w : Situation words dir table heads since rows) (b : ClauseOf w.p k) where
  abbrev p : Program
  p = w.p

  abbrev predicate : ℕ
  predicate = predicate_of b.c.head

  module _ (found : List ℕ) (start cells there : ℕ) where
    -- the shapes below a number are done, and the link leads to the next; `any` is true where they gave marks
    pub record HeadVisiting (link : ℕ) (found' : List ℕ) (any : Bool) : Type 0 where
      pub stands : StandsAt words b.c.head start cells
      pub head_variables : VariablesOf b.c.head there
      pub from : ℕ
      pub next : Link (shapes p) predicate from link
      pub marked : Collected (OpenedBelow p table since rows k predicate from) found found'
      pub told : Told (OpenedBelow p table since rows k predicate from) any

    pub head_begins : (link : ℕ) → length found ≡ set_words → start ≡ get_or dir (clause_head + k) 0 → cells ≡ get_or dir (clause_cells + k) 0
        → there < 65536 → Marks (λ v. v < get_or dir (clause_vars + k) 0) there
        → link ≡ get_or dir (predicate_shape + get_or words start 0) 0 → HeadVisiting link found false
    head_begins link size e f small m g =
        let at-start = head_stands w.setting b.nth_clause e f in
        record {
          stands = at-start;
          head_variables = head_variables w.setting b.nth_clause small m;
          from = 0;
          next = first_link w.setting b.nth_clause at-start g;
          marked = marked_none found size (below_none w.setting b.nth_clause table since rows);
          told = λ N o. below_none w.setting b.nth_clause table since rows N o;
        }

    module _ {link : ℕ} {found' : List ℕ} {any : Bool} (v : HeadVisiting link found' any) (some : 0 < link) where
      abbrev pub head_shape : MarkShape words dir table heads since (link - 1) start cells there
      head_shape =
          record {
            p = p;
            rows = rows;
            k = k;
            shape =
                record {
                  setting = w.setting;
                  chains = w.chains;
                  S = (v.next.named some).1;
                  nth_shape = (v.next.named some).2;
                  c = b.c;
                  nth_clause = b.nth_clause;
                  stands = v.stands;
                  head_variables = v.head_variables;
                };
          }

      pub head_few : link ≤ max_shapes
      head_few = link_few w.setting b.nth_clause v.next some

      pub head_nearer : (next : ℕ) → next ≡ get_or dir (shape_next + (link - 1)) 0 → shapes_left next < shapes_left link
      head_nearer next e =
          rw e (links_fall w.setting v.next some)

      pub head_on : {found'' : List ℕ} {any' : Bool} → Collected (OpenedBy p table since rows k (link - 1)) found' found'' → (T any → T any')
          → Told (OpenedBy p table since rows k (link - 1)) any' → (next : ℕ) → next ≡ get_or dir (shape_next + (link - 1)) 0 → HeadVisiting next found'' any'
      head_on {found''} m still told next e =
          record {
            stands = v.stands;
            head_variables = v.head_variables;
            from = link;
            next = rw e (next_link w.setting v.next some);
            marked = marked_same found found'' same (marked_then found found' found'' v.marked m);
            told = λ N o. ⊎_elim (λ x. still (v.told N x)) (told N) ((same N).1 o);
          }
        where
          same : (N : ℕ) → (OpenedBelow p table since rows k predicate v.from N ⊎ OpenedBy p table since rows k (link - 1) N)
              ↔ OpenedBelow p table since rows k predicate link N
          same N = let o = below_next w.setting b.nth_clause table since rows v.next some N in (o.1, o.0)

    pub head_ends : {link : ℕ} {found' : List ℕ} {any : Bool} → HeadVisiting link found' any → link ≤ 0
        → Collected (HeadMark p table since rows k 0) found found' × Told (HeadMark p table since rows k 0) any
    head_ends {link} {found'} v l = (
      marked_same found found' (reached_head p table since rows b.nth_clause)
          (marked_same found found' (below_all w.setting b.nth_clause table since rows last) v.marked),
      λ q m. v.told q ((below_all w.setting b.nth_clause table since rows last q).1 ((reached_head p table since rows b.nth_clause q).1 m)),
    )
      where
        last : Link (shapes p) predicate v.from 0
        last = let e : link ≡ 0 = omega arith in rw e at v.next

-- what is asked lies within the directory and the words
pub asked_head_in_dir : {words dir table heads : List ℕ} {since rows k : ℕ} → HeadAsked words dir table heads since rows k
    → (k < 64) × (length dir ≡ dir_words) × (length words ≤ 2048)
asked_head_in_dir a = clause_in_dir a.situation.setting a.clause.nth_clause
