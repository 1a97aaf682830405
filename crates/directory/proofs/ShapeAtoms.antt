-- The shape of an atom is an atom of the same predicate, with as many cells.
use Prim.Native.Nat.{ℕ, suc, ◌≤◌, ◌<◌}
use native.Mathlib.Omega.{arith}
use native.Mathlib.Decide.{ℕ_discrete}
use mathlib.Core.Path.{◌≡◌, refl, ap, ◌∙◌}
use mathlib.Core.Logic.{inl, inr}
use mathlib.Core.List.{List, [], map}
use lib.ListN.{length, get_or, length-map, get_or-map}
use Rattle.terms.specs.Term.{Term, Terms, var, app, nil, cons, count, sub, subs, Occ, Occs}
use Rattle.terms.specs.Cells.{variables, enc, Keeps, Keepss, Atom}
use Rattle.program.specs.Limits.{max_declared}
use Rattle.program.specs.Shapes.{met, number, shape_of}
use Rattle.program.proofs.ShapeLaws.{place_nth, met_has}
use Rattle.program.proofs.Nths.{nth_below}
use Rattle.directory.specs.Numbers.{renamed}
use Rattle.directory.specs.Directory.{predicate_of}
use Rattle.directory.proofs.TermCells.{atom_renamed}
use Rattle.directory.proofs.ShapeVariables.{met_few}

count_subs : (ts : Terms) (f : ℕ → Term) → count (subs ts f) ≡ count ts
count_subs nil f = refl
count_subs (cons t ts) f = ap suc (count_subs ts f)

mutual
  keeps_renamed : (F : List ℕ) (t : Term) (f : ℕ → ℕ) → ((v : ℕ) → Occ v t → f v < variables) → Keeps F t → Keeps F (sub t (λ v. var (f v)))
  keeps_renamed F (var v) f h k = h v refl
  keeps_renamed F (app g ts) f h k = (k.0, k.1, count_subs ts (λ v. var (f v)) ∙ k.2, keepss_renamed F ts f h k.3)

  keepss_renamed : (F : List ℕ) (ts : Terms) (f : ℕ → ℕ) → ((v : ℕ) → Occs v ts → f v < variables) → Keepss F ts → Keepss F (subs ts (λ v. var (f v)))
  keepss_renamed F nil f h k = tt
  keepss_renamed F (cons t ts) f h k = (keeps_renamed F t f (λ v o. h v (inl o)) k.0, keepss_renamed F ts f (λ v o. h v (inr o)) k.1)

module _ (P F : List ℕ) (few : length P ≤ max_declared) (A : Term) (a : Atom P F A) where
  -- the cells of the shape are those of the atom, renamed
  pub shape_cells_law : enc (shape_of A) ≡ map (renamed (number A)) (enc A)
  shape_cells_law = atom_renamed P F few A a (number A)

  pub shape_length : length (enc (shape_of A)) ≡ length (enc A)
  shape_length = ap length shape_cells_law ∙ length-map (enc A) (renamed (number A))

  pub shape_cell : (i : ℕ) → get_or (enc (shape_of A)) i 0 ≡ renamed (number A) (get_or (enc A) i 0)
  shape_cell i = ap (λ (l : List ℕ). get_or l i 0) shape_cells_law ∙ get_or-map (renamed (number A)) (enc A) i 0

  number_few : (v : ℕ) → Occ v A → number A v < variables
  number_few v o =
      let l = nth_below (place_nth ℕ_discrete v (met [] A) (met_has A [] v o)) in
      let m = met_few P F A a in
      omega arith

  pub shape_predicate : predicate_of (shape_of A) ≡ a.predicate
  shape_predicate = ap (λ (t : Term). predicate_of (sub t (λ v. var (number A v)))) a.is

  pub shape_atom : Atom P F (shape_of A)
  shape_atom =
      record {
        predicate = a.predicate;
        arguments = subs a.arguments (λ v. var (number A v));
        is = ap (λ (t : Term). sub t (λ v. var (number A v))) a.is;
        declared = a.declared;
        arity = count_subs a.arguments (λ v. var (number A v)) ∙ a.arity;
        keeps = keepss_renamed F a.arguments (number A) (λ v o. number_few v (rw a.is o)) a.keeps;
        short = rw shape_length a.short;
      }
