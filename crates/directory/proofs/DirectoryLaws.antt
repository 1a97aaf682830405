-- What follows from a directory, for those who read it: runs of cells as slices, atoms within the limits, numbers within their counts.
use Prim.Native.Nat.{ℕ, ◌≤◌, ◌<◌}
use mathlib.Core.Path.{◌≡◌}
use mathlib.Core.List.{List, [], ◌∷◌, map}
use lib.ListN.{length, get_or}
use Rattle.terms.specs.Term.{Term, same_term}
use Rattle.terms.specs.Cells.{Atom}
use Rattle.program.specs.Limits.{max_declared}
use Rattle.program.specs.Program.{Nth, Clause, Program, bodies}
use Rattle.program.specs.Faults.{faults, sound}
use Rattle.program.specs.Within.{Each, none, more}
use Rattle.program.specs.Shapes.{with, shape_of, distinct, shapes}
use Rattle.program.proofs.ProgramWords.{sound_within}
use Rattle.program.proofs.Nths.{below_nth}
use Rattle.directory.specs.Layout.{shape_count}
use Rattle.directory.specs.Directory.{Directory}
use Rattle.directory.proofs.Cuts.{each_nth}
use Rattle.directory.proofs.PlacedLaws.{bodies_atoms}
use Rattle.directory.proofs.ShapeAtoms.{shape_atom}

-- each of a list with one more, of the distinct ones, of the mapped ones
each_with : {P : Term → Type 0} (l : List Term) (t : Term) → Each P l → P t → Each P (with same_term l t)
each_with [] t none p = more p none
each_with {P} (b ∷ l) t (more q e) p = by (each_with l t e p) (same_term t b)
  where
    by : Each P (with same_term l t) → (d : Dec (t ≡ b)) → Each P (elim d as (λ _. List Term) [ yes _ ↦ b ∷ l | no _ ↦ b ∷ with same_term l t ])
    by below (yes _) = more q e
    by below (no _) = more q below

each_distinct : {P : Term → Type 0} (ts seen : List Term) → Each P seen → Each P ts → Each P (distinct seen ts)
each_distinct [] seen e f = e
each_distinct (t ∷ ts) seen e (more p f) = each_distinct ts (with same_term seen t) (each_with seen t e p) f

each_shape : (P Q : Term → Type 0) (ts : List Term) → ((t : Term) → P t → Q (shape_of t)) → Each P ts → Each Q (map shape_of ts)
each_shape P Q [] g none = none
each_shape P Q (t ∷ ts) g (more p e) = more (g t p) (each_shape P Q ts g e)

module _ (words : List ℕ) (p : Program) (e : faults words ≡ sound p) where
  -- the program's atoms are within the limits
  pub predicates_few : length p.predicates ≤ max_declared
  predicates_few = (sound_within words p e).predicates_most

  pub head_sound : {k : ℕ} {c : Clause} → Nth p.clauses k c → Atom p.predicates p.functions c.head
  head_sound q = (each_nth (sound_within words p e).clauses_within q).head_atom

  pub body_sound : {k i : ℕ} {c : Clause} {A : Term} → Nth p.clauses k c → Nth c.body i A → Atom p.predicates p.functions A
  body_sound q h = each_nth (each_nth (sound_within words p e).clauses_within q).body_atoms h

  pub goal_sound : Atom p.predicates p.functions p.goal
  goal_sound = (sound_within words p e).goal_atom

  module _ (dir : List ℕ) (d : Directory words p dir) where
    -- the atoms' own shapes
    atom_shape_sound : (A : Term) → Atom p.predicates p.functions A → Atom p.predicates p.functions (shape_of A)
    atom_shape_sound A a = shape_atom p.predicates p.functions predicates_few A a

    -- every shape is that of the goal or of a body atom, and so within the limits
    pub shape_sound : {s : ℕ} {S : Term} → Nth (shapes p) s S → Atom p.predicates p.functions S
    shape_sound q =
        each_nth
        (each_distinct (shape_of p.goal ∷ map shape_of (bodies p.clauses)) [] none
        (more (atom_shape_sound p.goal goal_sound)
        (each_shape (Atom p.predicates p.functions) (Atom p.predicates p.functions) (bodies p.clauses) atom_shape_sound (bodies_atoms p.predicates p.functions p.clauses (sound_within words p e).clauses_within))))
        q

    -- a number below the count is a shape's
    pub shape_under : (s : ℕ) → s < get_or dir shape_count 0 → (S : Term) × Nth (shapes p) s S
    shape_under s h = below_nth (shapes p) s (rw d.shape_count_law at h)
