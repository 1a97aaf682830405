-- A shape of a program within the limits is an atom of it: renumbering keeps the arities and the count of cells, and the numbers are at most 15.
use Prim.Native.Nat.{ℕ, suc, ◌≤◌, ◌<◌}
use mathlib.Core.Path.{◌≡◌, refl, ap, ◌∙◌}
use mathlib.Core.Logic.{inl, inr}
use mathlib.Core.List.{List}
use lib.ListN.{length, length-map}
use Rattle.terms.specs.Term.{Term, Terms, var, app, nil, cons, count, Subst, sub, subs, Occ, Occs}
use Rattle.terms.specs.Cells.{variables, enc, Keeps, Keepss, Atom}
use Rattle.terms.proofs.RunVariables.{atom_variables}
use Rattle.program.specs.Limits.{max_declared}
use Rattle.program.specs.Program.{Nth, Program}
use Rattle.program.specs.Shapes.{number, shape_of, shapes}
use Rattle.program.specs.Within.{WithinLimits}
use Rattle.directory.specs.Numbers.{renamed}
use Rattle.directory.proofs.TermCells.{atom_renamed}
use Rattle.table.proofs.ShapeVariables.{number_below, shape_atom}

count_subs : (ts : Terms) (σ : Subst) → count (subs ts σ) ≡ count ts
count_subs nil σ = refl
count_subs (cons t ts) σ = ap suc (count_subs ts σ)

-- a term whose variables are renamed to such at most 15 keeps its arities
mutual
  keeps_renamed : (F : List ℕ) (f : ℕ → ℕ) (t : Term) → ((v : ℕ) → Occ v t → f v < variables) → Keeps F t → Keeps F (sub t (λ v. var (f v)))
  keeps_renamed F f (var v) small k = small v refl
  keeps_renamed F f (app g ts) small k = (k.0, k.1, count_subs ts (λ v. var (f v)) ∙ k.2, keepss_renamed F f ts small k.3)

  keepss_renamed : (F : List ℕ) (f : ℕ → ℕ) (ts : Terms) → ((v : ℕ) → Occs v ts → f v < variables) → Keepss F ts → Keepss F (subs ts (λ v. var (f v)))
  keepss_renamed F f nil small k = tt
  keepss_renamed F f (cons t ts) small k =
      (keeps_renamed F f t (λ v o. small v (inl o)) k.0, keepss_renamed F f ts (λ v o. small v (inr o)) k.1)

-- the shape of an atom is an atom
pub shape_of_atom : (P F : List ℕ) (A : Term) → length P ≤ max_declared → Atom P F A → Atom P F (shape_of A)
shape_of_atom P F A few a =
    record {
      predicate = a.predicate;
      arguments = subs a.arguments (λ v. var (number A v));
      is = ap (λ (t : Term). sub t (λ v. var (number A v))) a.is;
      declared = a.declared;
      arity = count_subs a.arguments (λ v. var (number A v)) ∙ a.arity;
      keeps = keepss_renamed F (number A) a.arguments (λ v o. small v (rw a.is o)) a.keeps;
      short = rw (atom_renamed P F few A a (number A), length-map (enc A) (renamed (number A))) a.short;
    }
  where
    small : (v : ℕ) → Occ v A → number A v < variables
    small v o = number_below A variables (atom_variables a) v o

-- so each shape of a program within the limits is
pub shape_is_atom : (p : Program) → WithinLimits p → {s : ℕ} {S : Term} → Nth (shapes p) s S → Atom p.predicates p.functions S
shape_is_atom p within h =
    let (A, e, a) = shape_atom p within h in
    rw e (shape_of_atom p.predicates p.functions A within.predicates_most a)
