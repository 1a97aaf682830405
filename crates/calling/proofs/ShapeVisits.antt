-- The shapes of the predicate of a clause's head, one after the other along their links: the marks of none, of one shape more, of all.
use Prim.Native.Nat.{ℕ, ◌+◌, ◌-◌, ◌≤◌, ◌<◌}
use native.Mathlib.Omega.{arith}
use native.Mathlib.Decide.{dec_lt}
use mathlib.Core.Path.{◌≡◌, sym, ap, subst, ◌∙◌}
use mathlib.Core.Logic.{◌⊎◌, inl, inr, ⊎_elim, ◌↔◌}
use mathlib.Core.List.{List, ◌∷◌}
use lib.ListN.{length, get_or, take, drop, length-drop}
use lib.Seq.{length-take-le, get_or-take, get_or-drop}
use Rattle.terms.specs.Term.{Term}
use Rattle.terms.specs.Cells.{enc, encs, Atom}
use Rattle.terms.specs.Mask.{Marks}
use Rattle.terms.specs.Unifier.{Unifies}
use Rattle.terms.proofs.Masks.{marks_for}
use Rattle.marks.specs.Modes.{modes}
use Rattle.marks.specs.Passing.{VariablesOf}
use Rattle.program.specs.Program.{Nth, Clause, Program}
use Rattle.program.specs.Shapes.{shapes}
use Rattle.program.specs.Limits.{max_shapes}
use Rattle.program.proofs.ShapeLaws.{nth_same}
use Rattle.program.proofs.Nths.{nth_below}
use Rattle.rows.specs.Rows.{keys_of}
use Rattle.directory.specs.Layout.{clause_head, clause_cells, clause_vars, predicate_shape, dir_words}
use Rattle.directory.specs.Directory.{StandsAt, ClauseAt, Link, predicate_of}
use Rattle.table.specs.Steps.{opens}
use Rattle.table.specs.NewRows.{NewReached}
use Rattle.steps.specs.Steps.{RowsIn}
use Rattle.steps.specs.Situation.{Setting}
use Rattle.calling.specs.Calls.{OpenedBy, OpenedBelow}
use Rattle.steps.proofs.Meetings.{setting_within}
use Rattle.steps.proofs.ShapeAtoms.{shape_is_atom}
use Rattle.steps.proofs.Bodies.{head_is_atom}
use Rattle.steps.proofs.ShapeLinks.{same_predicate, link_below}

-- an atom's first word is its predicate
pub stands_predicate : {words : List ℕ} {ps fs : List ℕ} {A : Term} {start cells : ℕ} → Atom ps fs A → StandsAt words A start cells
    → (get_or words start 0 ≡ predicate_of A) × (start < length words)
stands_predicate {words} {A = A} {start} {cells} a s =
    let run : take cells (drop start words) ≡ a.predicate ∷ encs a.arguments = s.run ∙ ap enc a.is in
    let room : cells ≤ length (drop start words) = rw length-drop (omega (arith, s.fits)) in
    let some : 0 < cells = omega (arith, length-take-le cells (drop start words) room, ap length run) in
    let same : start + 0 ≡ start = omega arith in
    let first : get_or words start 0 ≡ get_or (take cells (drop start words)) 0 0
    = sym (get_or-take cells (drop start words) 0 0 some ∙ rw same at (get_or-drop start words 0 0)) in
    (first ∙ ap (λ (l : List ℕ). get_or l 0 0) run ∙ sym (ap predicate_of a.is), omega (arith, s.fits))

module _ {words dir : List ℕ} {p : Program} (setting : Setting words dir p) {k : ℕ} {c : Clause} (hc : Nth p.clauses k c) where
  abbrev predicate : ℕ
  predicate = predicate_of c.head

  pub head_predicate : {start cells : ℕ} → StandsAt words c.head start cells → (get_or words start 0 ≡ predicate) × (start < length words)
  head_predicate s = stands_predicate (head_is_atom setting hc) s

  pub head_declared : (predicate < length p.predicates) × (length p.predicates ≤ 64)
  head_declared =
      let a = head_is_atom setting hc in
      (rw (ap predicate_of a.is) a.declared, (setting_within setting).predicates_most)

  pub head_in_words : (start : ℕ) → start ≡ get_or dir (clause_head + k) 0 → (start < length words) × (get_or words start 0 < 64)
  head_in_words start e =
      let h = head_predicate (setting.directory.clause hc).stands in
      rw e (h.1, rw h.0 (omega (arith, head_declared.0, head_declared.1)))

  pub clause_entry : ClauseAt words dir c k
  clause_entry = setting.directory.clause hc

  pub clause_in_dir : (k < 64) × (length dir ≡ dir_words) × (length words ≤ 2048)
  clause_in_dir =
      let d = setting.directory in
      (omega (arith, nth_below hc, (setting_within setting).clauses_most), d.size, d.words_most)

  -- the head where the directory says that it stands, its variables, and the first of its predicate's shapes
  pub head_stands : {start cells : ℕ} → start ≡ get_or dir (clause_head + k) 0 → cells ≡ get_or dir (clause_cells + k) 0 → StandsAt words c.head start cells
  head_stands e f = rw (e, f) clause_entry.stands

  pub head_variables : {there : ℕ} → there < 65536 → Marks (λ v. v < get_or dir (clause_vars + k) 0) there → VariablesOf c.head there
  head_variables {there} small m =
      record { small = small; marked = marks_for there (λ v. ((clause_entry.head_variables v).1, (clause_entry.head_variables v).0)) m }

  pub first_link : {start cells link : ℕ} → StandsAt words c.head start cells → link ≡ get_or dir (predicate_shape + get_or words start 0) 0
      → Link (shapes p) predicate 0 link
  first_link s g = rw (g, (head_predicate s).0) (setting.directory.first_shape predicate head_declared.0)

  module _ {from link : ℕ} (l : Link (shapes p) predicate from link) (some : 0 < link) where
    pub link_few : link ≤ max_shapes
    link_few = omega (arith, link_below setting l some)

  module _ (table : List ℕ) (since rows : ℕ) where
    abbrev Below : ℕ → ℕ → Type 0
    Below from = OpenedBelow p table since rows k predicate from

    pub below_none : (N : ℕ) → Below 0 N → ⊥
    below_none N (s, l, S, h, e, o) = omega arith

    -- one shape more
    pub below_next : {from link : ℕ} → Link (shapes p) predicate from link → 0 < link → (N : ℕ)
        → Below link N ↔ (Below from N ⊎ OpenedBy p table since rows k (link - 1) N)
    below_next {from} {link} l some N = (to, ⊎_elim old this)
      where
        to : Below link N → Below from N ⊎ OpenedBy p table since rows k (link - 1) N
        to (s, m, S, h, e, o) = by (dec_lt s from)
          where
            by : Dec (s < from) → Below from N ⊎ OpenedBy p table since rows k (link - 1) N
            by (yes b) = inl (s, b, S, h, e, o)
            by (no b) =
                let at : s ≡ link - 1 = omega (arith, (l.none_before s S h e (omega arith)).1) in
                inr (subst (λ (x : ℕ). OpenedBy p table since rows k x N) at o)

        old : Below from N → Below link N
        old (s, m, S, h, e, o) = (s, omega (arith, (l.named some).0), S, h, e, o)

        this : OpenedBy p table since rows k (link - 1) N → Below link N
        this o = let (f, S, h, e) = l.named some in (link - 1, omega arith, S, h, e, o)

    -- behind the last link all shapes are met
    pub below_all : {from : ℕ} → Link (shapes p) predicate from 0 → (N : ℕ)
        → Below from N ↔ NewReached modes p (RowsIn p (keys_of table since)) (RowsIn p (keys_of table rows)) k 0 N
    below_all {from} l N = (λ (s, m, S, h, e, o). (s, o.0, o.1, o.2), from_reached)
      where
        from_reached : NewReached modes p (RowsIn p (keys_of table since)) (RowsIn p (keys_of table rows)) k 0 N → Below from N
        from_reached (s, M, new, opens {S = S} hc' hs passed) = by (dec_lt s from)
          where
            same : predicate_of S ≡ predicate
            same =
                let a = shape_is_atom p (setting_within setting) hs in
                let b = head_is_atom setting hc in
                same_predicate a.predicate b.predicate a.arguments b.arguments passed.α passed.β a.is b.is
                (subst (λ (d : Clause). Unifies S d.head passed.α passed.β) (nth_same hc' hc) passed.unifier.unifies)

            by : Dec (s < from) → Below from N
            by (yes b) = (s, b, S, hs, same, (M, new, opens hc' hs passed))
            by (no b) = absurd (let z = (l.none_before s S hs same (omega arith)).0 in omega arith)
