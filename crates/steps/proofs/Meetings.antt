-- A shape and an atom of the words: their cells stand in the directory and in the words, and are atoms; where they unify, they have one predicate.
use Prim.Native.Nat.{ℕ, suc, ◌+◌, ◌-◌, ◌<◌}
use native.Mathlib.Omega.{arith}
use mathlib.Core.Path.{◌≡◌, sym, ap, ◌∙◌}
use mathlib.Core.Bool.{Bool, true, false}
use mathlib.Core.List.{List}
use lib.ListN.{get_or}
use Rattle.terms.specs.Term.{Term, Subst, app, sub}
use Rattle.terms.specs.Cells.{variables, pick, enc, Atom}
use Rattle.terms.specs.Unifier.{Apart}
use Rattle.terms.specs.Unified.{Unified, Bindings, StoreOf, Unification, BothAtoms}
use Rattle.program.specs.Program.{Program}
use Rattle.program.specs.Shapes.{shapes}
use Rattle.program.specs.Within.{WithinLimits}
use Rattle.program.specs.Limits.{max_shapes}
use Rattle.program.specs.Lists.{between}
use Rattle.program.proofs.ProgramWords.{sound_within}
use Rattle.program.proofs.Nths.{nth_below}
use Rattle.directory.specs.Layout.{shape_start, shape_cells}
use Rattle.directory.specs.Directory.{ShapeAt, predicate_of}
use Rattle.steps.specs.Parts.{shape_run, ShapeIn, PairOf}
use Rattle.steps.specs.Situation.{Setting, Meeting, Unifying, Met, MetStore, MetBindings}
use Rattle.steps.proofs.ShapeAtoms.{shape_is_atom}

pub setting_within : {words dir : List ℕ} {p : Program} → Setting words dir p → WithinLimits p
setting_within {words} {p = p} s = sound_within words p s.accepted

-- atoms that unify have one predicate
pub one_predicate : {P F P' F' : List ℕ} {A B : Term} (α β : Subst) → Atom P F A → Atom P' F' B → sub A α ≡ sub B β → predicate_of B ≡ predicate_of A
one_predicate {A = A} {B = B} α β a b e =
    let f : sub (app a.predicate a.arguments) α ≡ sub (app b.predicate b.arguments) β = rw (a.is, b.is) at e in
    let g : a.predicate ≡ b.predicate = ap predicate_of f in
    rw (a.is, b.is) (sym g)

-- what a store is of, its sets are those of
pub store_sets : {functions a b : List ℕ} {S A : Term} {places sets : List ℕ} → Unified functions a b S A places sets → Unifying S A sets
store_sets u = record { α = u.σ; β = λ v. u.σ (variables + v); most_general = u.most_general; sets_right = u.sets_right }

pub store_met : (functions : List ℕ) (S A : Term) (r : Bool) (places sets : List ℕ) → MetStore functions S A r places sets → Met S A r sets
store_met functions S A true places sets u = store_sets u
store_met functions S A false places sets u = u

module _ {words dir : List ℕ} {shape start cells : ℕ} (m : Meeting words dir shape start cells) where
  pub shape_at : ShapeAt (shapes m.p) dir m.S shape
  shape_at = m.setting.directory.shape m.nth_shape

  pub shape_few : shape < max_shapes
  shape_few = let d = m.setting.directory in omega (arith, nth_below m.nth_shape, d.shape_count_law, d.shapes_most)

  -- the shape's cells are in the directory, and the functions' arities in the words
  pub shape_in : ShapeIn dir shape
  shape_in =
      let e : shape_start + shape + 1 ≡ shape_start + suc shape = omega arith in
      record {
        few = shape_few;
        size = m.setting.directory.size;
        ordered = rw e shape_at.ordered;
        within = rw e (omega (arith, shape_at.cells_most, m.setting.directory.size));
      }

  shape_run_law : shape_run dir shape ≡ enc m.S
  shape_run_law =
      let e : shape_start + shape + 1 ≡ shape_start + suc shape = omega arith in
      let same : shape_cells + get_or dir (shape_start + suc shape) 0 - (shape_cells + get_or dir (shape_start + shape) 0) ≡ get_or dir (shape_start + suc shape) 0 - get_or dir (shape_start + shape) 0 = omega arith in
      rw (e, same) shape_at.stands.run

  atom_run : between words start (start + cells) ≡ enc m.A
  atom_run = let same : start + cells - start ≡ cells = omega arith in rw same m.stands.run

  shape_atom : Atom m.p.predicates m.p.functions m.S
  shape_atom = shape_is_atom m.p (setting_within m.setting) m.nth_shape

  -- the cells of the two and the arities, as they are read
  module _ {first second predicates functions : List ℕ} (pair : PairOf words dir shape start cells first second predicates functions) where
    first_run : first ≡ enc m.S
    first_run = pair.first_is ∙ shape_run_law

    second_run : second ≡ enc m.A
    second_run = pair.second_is ∙ atom_run

    functions_are : functions ≡ m.p.functions
    functions_are = pair.functions_are ∙ m.setting.directory.functions_are

    predicates_are : predicates ≡ m.p.predicates
    predicates_are = pair.predicates_are ∙ m.setting.directory.predicates_are

    -- what is said of the shape and the atom is said of their cells
    pub meeting_bindings : (places : List ℕ) → MetBindings m.p.functions m.S m.A places → Bindings functions first second m.S m.A places
    meeting_bindings places u = rw (functions_are, first_run, second_run) u

    pub meeting_stored : (places : List ℕ) → MetBindings m.p.functions m.S m.A places → StoreOf functions first second places
    meeting_stored places u =
        record {
          A = m.S;
          B = m.A;
          bindings = meeting_bindings places u;
          first_short = rw first_run shape_atom.short;
          second_short = rw second_run m.atom.short;
        }

    first_atom : Atom predicates functions m.S
    first_atom = rw (predicates_are, functions_are) shape_atom

    second_atom_law : Atom predicates functions m.A
    second_atom_law = rw (predicates_are, functions_are) m.atom

    pub meeting_atoms : BothAtoms predicates functions first second
    meeting_atoms =
        record { first = m.S; first_run = first_run; first_atom = first_atom; second = m.A; second_run = second_run; second_atom_law = second_atom_law }

    -- what unification says of their cells it says of the shape and the atom
    pub meeting_store : (r : Bool) (places sets : List ℕ) → Unification predicates functions first second r places sets
        → MetStore m.p.functions m.S m.A r places sets
    meeting_store r places sets u = by r (u m.S m.A first_run second_run first_atom second_atom_law)
      where
        by : (r : Bool) → pick r (Unified functions first second m.S m.A places sets) (Apart m.S m.A)
            → MetStore m.p.functions m.S m.A r places sets
        by true h = rw (functions_are, first_run, second_run) at h
        by false h = h
