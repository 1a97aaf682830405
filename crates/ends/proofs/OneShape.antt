-- A shape of the predicate of a clause's head: without a call row to look at, or apart from the head, it gives nothing.
use Prim.Native.Nat.{ℕ, ◌≤◌, ◌<◌}
use native.Mathlib.Omega.{arith}
use mathlib.Core.Path.{◌≡◌, sym, subst}
use mathlib.Core.Logic.{inl, ⊎_elim}
use mathlib.Core.List.{List}
use lib.ListN.{length, get_or}
use Rattle.terms.specs.Term.{Term}
use Rattle.terms.specs.Unifier.{Apart, Unifies}
use Rattle.program.specs.Program.{Nth, Clause, Program}
use Rattle.program.specs.Limits.{max_shapes}
use Rattle.program.proofs.ShapeLaws.{nth_same}
use Rattle.rows.specs.Rows.{keys_of}
use Rattle.table.specs.Rules.{Row}
use Rattle.table.proofs.Steps.{opens_apart}
use Rattle.steps.specs.Steps.{Given, Writable, Stepped}
use Rattle.steps.specs.Situation.{Meeting, Unifying}
use Rattle.steps.specs.Heads.{SolvedOf, solved}
use Rattle.steps.proofs.Bodies.{head_is_atom}
use Rattle.steps.proofs.ShapeLinks.{shape_below}
use Rattle.steps.proofs.Stepping.{grew_none}
use Rattle.solving.proofs.SolveLaws.{none_late}
use Rattle.ends.specs.declared.heads.Head.{Head}
use Rattle.ends.specs.AtHead.{AtShape, OfShape, ShapeGives}

module _ {words dir table heads known found : List ℕ} {head : Head} {since rows s from known-marks marks : ℕ}
    (w : OfShape words dir table heads known found head since rows s from known-marks marks) where
  abbrev p : Program
  p = w.at_head.head.situation.p

  abbrev c : Clause
  c = w.at_head.head.clause.c

  abbrev hc : Nth p.clauses w.k c
  hc = w.at_head.head.clause.nth_clause

  abbrev Gives : ℕ → Type 0
  Gives = ShapeGives p (keys_of table since) (keys_of table rows) w.k known found s

  pub shape_few : s < max_shapes
  shape_few = shape_below w.at_head.head.situation.setting w.nth_shape

  pub shape_in_heads : s < length heads
  shape_in_heads = omega (arith, shape_few, w.at_head.head.situation.chains.all_heads)

  abbrev pub shape_meets : Meeting words dir s head.at.start head.at.cells
  shape_meets =
      record {
        p = p;
        setting = w.at_head.head.situation.setting;
        S = w.S;
        nth_shape = w.nth_shape;
        A = c.head;
        stands = w.head_known.stands;
        atom = head_is_atom w.at_head.head.situation.setting hc;
      }

  abbrev pub shape_met : {sets : List ℕ} {newest : ℕ} → newest ≡ get_or heads s 0 → Unifying w.S c.head sets
      → AtShape dir table sets known found head since rows s newest known-marks marks
  shape_met e u =
      record {
        words = words;
        heads = heads;
        p = p;
        setting = w.at_head.head.situation.setting;
        chains = w.at_head.head.situation.chains;
        k = w.k;
        c = c;
        nth_clause = hc;
        S = w.S;
        nth_shape = w.nth_shape;
        newest_is = e;
        unifying = u;
        head_variables = w.head_known.head_variables;
        opens = w.head_known.opens;
        known_on = w.at_head.known_on;
        found_on = w.at_head.found_on;
      }

  module _ (round room n : ℕ) (buckets : List ℕ) (writable : Writable table buckets n room) where
    nothing : ((key : ℕ) → Gives key → ⊥) → Stepped (Given p (keys_of table rows)) round room n table buckets Gives n table buckets
    nothing none = inl (grew_none (Given p (keys_of table rows)) round room n table buckets _ writable (λ key g. absurd (none key g)))

    -- the shape has no call row from row `from` on
    pub shape_empty : get_or heads s 0 ≤ from → Stepped (Given p (keys_of table rows)) round room n table buckets Gives n table buckets
    shape_empty l = nothing (λ key. ⊎_elim
        (λ (N, (M, new, o), given). none_late p table heads since rows since s M w.at_head.head.situation.chains shape_few (omega (arith, w.from_new)) new)
        (⊎_elim (λ (row, g, e). none_known g) (λ (row, g, e). none_found g)))
      where
        none_known : {row : Row ℕ} → SolvedOf p (keys_of table since) (keys_of table rows) w.k known s row → ⊥
        none_known (solved {C = C} hc' in_set_law hs' new passed) = none_late p table heads since rows since s C w.at_head.head.situation.chains shape_few (omega (arith, w.from_new)) new

        none_found : {row : Row ℕ} → SolvedOf p (keys_of table 0) (keys_of table rows) w.k found s row → ⊥
        none_found (solved {q = q} {C = C} hc' in_set_law hs' new passed) =
            let some : 0 < marks = omega (arith, w.at_head.found_on.below q in_set_law) in
            none_late p table heads since rows 0 s C w.at_head.head.situation.chains shape_few (omega (arith, w.from_all some)) new

    -- the shape and the head are apart
    pub shape_apart : Apart w.S c.head → Stepped (Given p (keys_of table rows)) round room n table buckets Gives n table buckets
    shape_apart apart = nothing (λ key. ⊎_elim
        (λ (N, (M, new, o), given). opens_apart p hc w.nth_shape apart o)
        (⊎_elim (λ (row, g, e). not_solved g) (λ (row, g, e). not_solved g)))
      where
        not_solved : {ks₀ ks set : List ℕ} {row : Row ℕ} → SolvedOf p ks₀ ks w.k set s row → ⊥
        not_solved (solved {c = c'} {S = S'} hc' in_set_law hs' new passed) =
            let u : Unifies c.head S' passed.α passed.β = subst (λ (d : Clause). Unifies d.head S' passed.α passed.β) (nth_same hc' hc) passed.unifier.unifies in
            apart passed.β passed.α (sym (subst (λ (T : Term). Unifies c.head T passed.α passed.β) (nth_same hs' w.nth_shape) u))
