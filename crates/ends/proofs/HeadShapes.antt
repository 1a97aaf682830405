-- The shapes of the predicate of a clause's head, one after another by their links: what the shapes before the link give is there.
use Prim.Native.Nat.{ℕ, ◌+◌, ◌-◌, ◌*◌, ◌≤◌, ◌<◌}
use native.Mathlib.Omega.{arith}
use mathlib.Core.Path.{◌≡◌, sym, subst}
use mathlib.Core.Logic.{◌⊎◌, inl, inr, ⊎_elim}
use mathlib.Core.List.{List}
use mir.Syntax.{w64}
use mir.Val.{Fits}
use lib.ListN.{length, get_or}
use Rattle.terms.specs.Term.{Term}
use Rattle.terms.specs.Unifier.{Unifies}
use Rattle.marks.specs.Modes.{modes}
use Rattle.program.specs.Program.{Nth, Clause, Program}
use Rattle.program.specs.Shapes.{shapes}
use Rattle.program.proofs.ShapeLaws.{nth_same}
use Rattle.directory.specs.Layout.{shape_next, predicate_shape}
use Rattle.directory.specs.Directory.{Link, predicate_of}
use Rattle.rows.specs.Rows.{keys_of}
use Rattle.table.specs.Rules.{Row}
use Rattle.table.specs.Steps.{Opens, opens}
use Rattle.steps.specs.Steps.{Given, Writable, Grew, Stepped}
use Rattle.steps.specs.Heads.{SolvedOf, solved}
use Rattle.steps.specs.Unifiers.{Notes}
use Rattle.steps.proofs.Meetings.{setting_within, one_predicate}
use Rattle.steps.proofs.Bodies.{head_is_atom}
use Rattle.steps.proofs.ShapeAtoms.{shape_is_atom}
use Rattle.steps.proofs.ShapeLinks.{shapes_left, link_below, next_link, links_fall, passed_before, all_passed}
use Rattle.steps.proofs.Stepping.{grew_none, grew_must, stepped_within, stepped_past}
use Rattle.steps.proofs.Emitting.{goes_emitted}
use Rattle.calling.proofs.ShapeVisits.{head_predicate, head_declared, first_link}
use Rattle.solving.proofs.SolveShape.{found_stays}
use Rattle.solving.proofs.SolveSets.{stepped_on}
use Rattle.ends.specs.declared.heads.Head.{Head}
use Rattle.ends.specs.AtHead.{ClauseAsked, HeadKnown, OfShape, ShapeGives, AtHead, HeadGives}
use Rattle.ends.proofs.ClauseRows.{stands_on}

-- the notes of a head are those of what stands where it stands
pub notes_there : {words dir unifiers : List ℕ} {start start' cells cells' : ℕ} → start' ≡ start → cells' ≡ cells → Notes words dir start cells unifiers → Notes words dir start' cells' unifiers
notes_there s c h = rw (s, c) h

module _ {words dir table₀ heads known found : List ℕ} {since old k known-marks marks : ℕ} (a : AtHead words dir table₀ heads known found since old k known-marks marks) where
  abbrev p : Program
  p = a.head.situation.p

  abbrev c : Clause
  c = a.head.clause.c

  abbrev hc : Nth p.clauses k c
  hc = a.head.clause.nth_clause

  abbrev pub clause_asked : ClauseAsked words dir k
  clause_asked = record { p = p; setting = a.head.situation.setting; c = c; nth_clause = hc }

  abbrev predicate : ℕ
  predicate = predicate_of c.head

  -- the head's first word is its predicate
  pub start_in_words : {head : Head} → HeadKnown words p k c head → (head.at.start < length words) × (get_or words head.at.start 0 < 64)
  start_in_words h =
      let (is, within) = head_predicate a.head.situation.setting hc h.stands in
      let declared = head_declared a.head.situation.setting hc in
      (within, rw is (omega (arith, declared.0, declared.1)))

  abbrev Gives : ℕ → ℕ → Type 0
  Gives = ShapeGives p (keys_of table₀ since) (keys_of table₀ old) k known found

  -- what the shapes of the predicate below a number give
  abbrev Below : ℕ → ℕ → Type 0
  Below upto key = (s : ℕ) × (S : Term) × Nth (shapes p) s S × (predicate_of S ≡ predicate) × (s < upto) × Gives s key

  module _ (round room n : ℕ) (buckets₀ : List ℕ) (head : Head) (from : ℕ) where
    -- the head and the first body atom are known; call rows before row `from` are passed by; what the shapes before the link give is there
    pub record Along (link rows : ℕ) (table buckets : List ℕ) : Type 0 where
      pub head_known : HeadKnown words p k c head
      pub from_new : from ≤ since
      pub from_all : 0 < marks → from ≡ 0
      pub upto : ℕ
      pub links : Link (shapes p) predicate upto link
      pub grew : Grew (Given p (keys_of table₀ old)) round room n table₀ buckets₀ (Below upto) rows table buckets

    pub along_begins : {link : ℕ} → Writable table₀ buckets₀ n room → HeadKnown words p k c head
        → (from ≤ since) × (0 < marks → from ≡ 0) → link ≡ get_or dir (predicate_shape + get_or words head.at.start 0) 0 → Along link n table₀ buckets₀
    along_begins writable known-head (new, all) g =
        record {
          head_known = known-head;
          from_new = new;
          from_all = all;
          upto = 0;
          links = first_link a.head.situation.setting hc known-head.stands g;
          grew = grew_none (Given p (keys_of table₀ old)) round room n table₀ buckets₀ _ writable (λ key (s, S, hs, same, l, h). absurd (omega arith));
        }

    module _ {link rows : ℕ} {table buckets : List ℕ} (v : Along link rows table buckets) where
      module _ (h : 0 < link) where
        abbrev s : ℕ
        s = link - 1

        -- the entry of the shape's next link stands in the directory
        pub along_there : Fits w64 (shape_next + s) × Fits w64 ((shape_next + s) * 2) × (shape_next + s < length dir)
        along_there =
            let few = link_below a.head.situation.setting v.links h in
            let size = a.head.situation.setting.directory.size in
            (omega arith, omega arith, omega arith)

        pub along_falls : {next : ℕ} → next ≡ get_or dir (shape_next + s) 0 → shapes_left next < shapes_left link
        along_falls e = rw e (links_fall a.head.situation.setting v.links h)

        -- the shapes before the next link are those before this link, and this one
        at_link : (key : ℕ) → Below link key → Below v.upto key ⊎ Gives s key
        at_link key (s', S', hs', same, l, g) =
            ⊎_elim (λ b. inl (s', S', hs', same, b, g)) (λ e. inr (subst (λ (x : ℕ). Gives x key) e g)) (passed_before a.head.situation.setting v.links hs' same l)

        along_next : {r : ℕ} {table' buckets' : List ℕ} → Grew (Given p (keys_of table₀ old)) round room n table₀ buckets₀ (λ key. Below v.upto key ⊎ Gives s key) r table' buckets'
            → Along (get_or dir (shape_next + s) 0) r table' buckets'
        along_next g =
            record {
              head_known = v.head_known;
              from_new = v.from_new;
              from_all = v.from_all;
              upto = link;
              links = next_link a.head.situation.setting v.links h;
              grew = grew_must (Given p (keys_of table₀ old)) round room n _ table₀ buckets₀ _ _ _ _ at_link g;
            }

        module _ (behind : old ≤ n) where
          pub along_behind : old ≤ rows
          along_behind = omega (arith, v.grew.more)

          abbrev pub along_shape : OfShape words dir table heads known found head since old s from known-marks marks
          along_shape =
              record {
                k = k;
                at_head =
                    record {
                      head = stands_on words dir heads table₀ buckets₀ since old round room n behind k a.head _ rows table buckets v.grew;
                      known_on = found_stays p table₀ table old n k _ known known-marks behind v.grew.same_rows a.known_on;
                      found_on = found_stays p table₀ table old n k _ found marks behind v.grew.same_rows a.found_on;
                    };
                head_known = v.head_known;
                S = (v.links.named h).1;
                nth_shape = (v.links.named h).2;
                from_new = v.from_new;
                from_all = v.from_all;
              }

          module _ {r : ℕ} {table' buckets' : List ℕ}
              (step : (o : OfShape words dir table heads known found head since old s from known-marks marks)
              → Stepped (Given o.at_head.head.situation.p (keys_of table old)) round room rows table buckets
              (ShapeGives o.at_head.head.situation.p (keys_of table since) (keys_of table old) o.k known found s) r table' buckets') where
            both : Stepped (Given p (keys_of table₀ old)) round room n table₀ buckets₀ (λ key. Below v.upto key ⊎ Gives s key) r table' buckets'
            both =
                stepped_on p since old round room n rows r table₀ buckets₀ table buckets table' buckets' (Below v.upto) (λ ks₀ ks. ShapeGives p ks₀ ks k known found s)
                a.head.situation.chains.new behind v.grew (step along_shape)

            pub along_full : {Must : ℕ → Type 0} → room < r → Stepped (Given p (keys_of table₀ old)) round room n table₀ buckets₀ Must r table' buckets'
            along_full past = inr (stepped_past (Given p (keys_of table₀ old)) round room n r table₀ buckets₀ table' buckets' _ both past)

            pub along_on : {next : ℕ} → next ≡ get_or dir (shape_next + s) 0 → r ≤ room → Along next r table' buckets'
            along_on e within = rw e (along_next (stepped_within (Given p (keys_of table₀ old)) round room n r table₀ buckets₀ table' buckets' _ both within))

      -- at the last link every shape that unifies with the head was met
      pub along_ends : link ≤ 0 → Stepped (Given p (keys_of table₀ old)) round room n table₀ buckets₀ (HeadGives p (keys_of table₀ since) (keys_of table₀ old) k known found) rows table buckets
      along_ends last =
          inl (grew_must (Given p (keys_of table₀ old)) round room n rows table₀ buckets₀ table buckets (Below v.upto) _
          (λ key. ⊎_elim (λ (row, (N, (s, M, new, o), goes), e). opened o (λ o'. inl (N, (M, new, o'), (row, goes_emitted goes, e))))
          (⊎_elim (λ (row, (s, g), e). given g (λ g'. inr (inl (row, g', e)))) (λ (row, (s, g), e). given g (λ g'. inr (inr (row, g', e)))))) v.grew)
        where
          met : {key s : ℕ} {S : Term} → Nth (shapes p) s S → predicate_of S ≡ predicate → Gives s key → Below v.upto key
          met {s = s} {S = S} hs same g = (s, S, hs, same, all_passed a.head.situation.setting v.links last hs same, g)

          opened : {key s M N : ℕ} → Opens modes p k s M N → (Opens modes p k s M N → Gives s key) → Below v.upto key
          opened (opens {S = S} hc' hs passed) f =
              met hs (sym (one_predicate passed.α passed.β (shape_is_atom p (setting_within a.head.situation.setting) hs) (head_is_atom a.head.situation.setting hc)
              (subst (λ (d : Clause). Unifies S d.head passed.α passed.β) (nth_same hc' hc) passed.unifier.unifies))) (f (opens hc' hs passed))

          given : {key s : ℕ} {ks₀ ks set : List ℕ} {row : Row ℕ} → SolvedOf p ks₀ ks k set s row → (SolvedOf p ks₀ ks k set s row → Gives s key) → Below v.upto key
          given (solved {S = S} hc' in_set_law hs new passed) f =
              met hs (one_predicate passed.α passed.β (head_is_atom a.head.situation.setting hc) (shape_is_atom p (setting_within a.head.situation.setting) hs)
              (subst (λ (d : Clause). Unifies d.head S passed.α passed.β) (nth_same hc' hc) passed.unifier.unifies)) (f (solved hc' in_set_law hs new passed))
