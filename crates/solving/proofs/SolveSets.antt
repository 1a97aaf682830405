-- Rule 3 for one shape with two sets: marks that are known go to its new call rows, the others to all.
use Prim.Native.Nat.{ℕ, ◌≤◌}
use native.Mathlib.Omega.{arith}
use mathlib.Core.Path.{refl, subst}
use mathlib.Core.Logic.{◌⊎◌}
use mathlib.Core.List.{List, []}
use Rattle.terms.specs.Term.{Term}
use Rattle.marks.specs.Pass.{Pass}
use Rattle.program.specs.Program.{Clause, Program}
use Rattle.program.proofs.ShapeLaws.{nth_same}
use Rattle.rows.specs.Rows.{keys_of}
use Rattle.table.specs.Rules.{Row}
use Rattle.table.specs.RoundKeys.{Keyed}
use Rattle.steps.specs.Steps.{Given, Writable, Grew, Stepped}
use Rattle.steps.specs.Heads.{SolvedOf, solved}
use Rattle.solving.specs.Solving.{ToShape, SolvedBelow, FoundFor, ShapeAsked, SetsAsked, SolvedAt}
use Rattle.steps.proofs.Stepping.{keys_stay, grew_none, stepped_then, stepped_must}
use Rattle.solving.proofs.SolveLaws.{none_late, to_shape_below}
use Rattle.solving.proofs.SolveShape.{to_stays, found_stays}

-- one step after another, where what the second must give goes by the keys of the rows before
pub stepped_on : (p : Program) (since rows round room n n' n'' : ℕ) (table₀ buckets₀ table buckets table' buckets' : List ℕ) (Must : ℕ → Type 0) (S : List ℕ → List ℕ → ℕ → Type 0)
    → since ≤ rows → rows ≤ n → Grew (Given p (keys_of table₀ rows)) round room n table₀ buckets₀ Must n' table buckets
    → Stepped (Given p (keys_of table rows)) round room n' table buckets (S (keys_of table since) (keys_of table rows)) n'' table' buckets'
    → Stepped (Given p (keys_of table₀ rows)) round room n table₀ buckets₀ (λ key. Must key ⊎ S (keys_of table₀ since) (keys_of table₀ rows) key) n'' table' buckets'
stepped_on p since rows round room n n' n'' table₀ buckets₀ table buckets table' buckets' Must S l behind g step =
    stepped_then (Given p (keys_of table₀ rows)) round room n n' n'' table₀ buckets₀ table buckets table' buckets' Must (S (keys_of table₀ since) (keys_of table₀ rows)) g
    (subst (λ (x : List ℕ). Stepped (Given p (keys_of table₀ rows)) round room n' table buckets (S x (keys_of table₀ rows)) n'' table' buckets')
    (keys_stay table₀ table n since (omega arith) g.same_rows)
    (subst (λ (x : List ℕ). Stepped (Given p x) round room n' table buckets (S (keys_of table since) x) n'' table' buckets') (keys_stay table₀ table n rows behind g.same_rows) step))

-- a solution row that marks in the set give is one that marks below the bound give
pub solved_below : {table found : List ℕ} {since old newest slot marks : ℕ} (w : ToShape table since old newest slot) → FoundFor w found marks → (from : ℕ) {row : Row ℕ}
    → SolvedOf w.p (keys_of table from) (keys_of table old) w.k found w.s row → SolvedBelow w from found marks row
solved_below w f from (solved {c = c} {q = q} {C = C} {R = R} {S = S} hc in_set_law hs new passed) = (
  q,
  f.below q in_set_law,
  in_set_law,
  record {
    C = C;
    there = new;
    R = R;
    passed = subst (λ (d : Clause). Pass d.head q w.S C R) (nth_same hc w.nth_clause) (subst (λ (T : Term). Pass c.head q T C R) (nth_same hs w.nth_shape) passed);
    is = refl;
  },
)

module _ {table₀ sets known found : List ℕ} {since old newest slot here there known-marks marks : ℕ}
    (a : SetsAsked table₀ sets known found since old newest slot here there known-marks marks) (round room n : ℕ) (buckets₀ : List ℕ) where
  abbrev pub p : Program
  p = a.to.p

  abbrev pub ByKnown : ℕ → Type 0
  ByKnown = Keyed p (SolvedOf p (keys_of table₀ since) (keys_of table₀ old) a.to.k known a.to.s)

  -- the marks that are known have gone to the new call rows
  abbrev pub Known : ℕ → List ℕ → List ℕ → Type 0
  Known rows table buckets = Grew (Given p (keys_of table₀ old)) round room n table₀ buckets₀ ByKnown rows table buckets

  -- the shape has no new call row
  pub known_none : Writable table₀ buckets₀ n room → newest ≤ since → Known n table₀ buckets₀
  known_none writable l = grew_none (Given p (keys_of table₀ old)) round room n table₀ buckets₀ ByKnown writable (λ key (row, h, e). absurd (none h))
    where
      none : {row : Row ℕ} → SolvedOf p (keys_of table₀ since) (keys_of table₀ old) a.to.k known a.to.s row → ⊥
      none (solved {C = C} hc in_set_law hs new passed) =
          none_late p table₀ a.to.heads since old since a.to.s C a.to.chains (to_shape_below a.to) (rw a.to.newest_is at l) new

  pub known_step : (r : ℕ) (table buckets : List ℕ) → Stepped (Given p (keys_of table₀ old)) round room n table₀ buckets₀ (Keyed p (SolvedBelow a.to since known known-marks)) r table buckets
      → Stepped (Given p (keys_of table₀ old)) round room n table₀ buckets₀ ByKnown r table buckets
  known_step r table buckets =
      stepped_must (Given p (keys_of table₀ old)) round room n r table₀ buckets₀ table buckets _ ByKnown (λ key (row, h, e). (row, solved_below a.to a.known_for since h, e))

  module _ (behind : old ≤ n) {rows : ℕ} {table buckets : List ℕ} (g : Known rows table buckets) where
    abbrev pub to_now : ToShape table since old newest slot
    to_now = to_stays a.to table n behind g.same_rows g.same_length

    pub found_now : FoundFor to_now found marks
    found_now = found_stays p table₀ table old n a.to.k _ found marks behind g.same_rows a.found_for

    abbrev pub found_asked : ShapeAsked table sets found since 0 old newest slot here there marks
    found_asked = record { to = to_now; shape_sets = a.shape_sets; found_for = found_now; from_within = omega arith }

    pub found_step : (r : ℕ) (table' buckets' : List ℕ)
        → Stepped (Given p (keys_of table old)) round room rows table buckets (Keyed p (SolvedBelow to_now 0 found marks)) r table' buckets'
        → Stepped (Given p (keys_of table₀ old)) round room n table₀ buckets₀ (SolvedAt p (keys_of table₀ since) (keys_of table₀ old) a.to.k known found a.to.s) r table' buckets'
    found_step r table' buckets' step =
        stepped_on p since old round room n rows r table₀ buckets₀ table buckets table' buckets' ByKnown (λ ks₀ ks. Keyed p (SolvedOf p [] ks a.to.k found a.to.s))
        a.to.chains.new behind g
        (stepped_must (Given p (keys_of table old)) round room rows r table buckets table' buckets' _ _ (λ key (row, h, e). (row, solved_below to_now found_now 0 h, e)) step)
