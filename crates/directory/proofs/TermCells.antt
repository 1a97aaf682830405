-- The cells of an atom: their variables by first appearance are the atom's, and renaming the variables renames the cells.
use Prim.Native.Nat.{ℕ, zero, suc, ◌+◌, ◌-◌, ◌≤◌, ◌<◌}
use native.Mathlib.Omega.{arith}
use native.Mathlib.Decide.{ℕ_discrete}
use mathlib.Core.Path.{◌≡◌, refl, sym, ap, ap₂, ◌∙◌}
use mathlib.Core.Logic.{◌⊎◌, inl, inr, ◌↔◌}
use mathlib.Core.List.{List, [], ◌∷◌, ◌++◌, map, map-append}
use lib.ListN.{length}
use borrow.Author.Tests.{lt-ltb, le-ltb}
use Rattle.terms.specs.Term.{Term, Terms, var, app, nil, cons, sub, subs, Occ, Occs}
use Rattle.terms.specs.Cells.{first_variable, enc, encs, Keeps, Keepss, Atom}
use Rattle.terms.specs.Walk.{InRun, Cells}
use Rattle.terms.proofs.RunVariables.{in_run_occs, cells_encs}
use Rattle.program.specs.Limits.{max_declared}
use Rattle.program.specs.Shapes.{with, met, mets}
use Rattle.directory.specs.Numbers.{met_cell, met_cells, renamed}

pub met_cells_append : (seen l m : List ℕ) → met_cells seen (l ++ m) ≡ met_cells (met_cells seen l) m
met_cells_append seen [] m = refl
met_cells_append seen (c ∷ l) m = met_cells_append (met_cell seen c) l m

met_function : (seen : List ℕ) (f : ℕ) → f < first_variable → met_cell seen f ≡ seen
met_function seen f h = rw (lt-ltb f first_variable h)

met_variable : (seen : List ℕ) (v : ℕ) → met_cell seen (first_variable + v) ≡ with ℕ_discrete seen v
met_variable seen v =
    let e : first_variable + v - first_variable ≡ v = omega arith in
    rw (le-ltb (first_variable + v) first_variable (omega arith)) (ap (with ℕ_discrete seen) e)

-- the variables of a term's cells by first appearance are the term's
mutual
  pub met_enc : (F : List ℕ) (t : Term) (seen : List ℕ) → Keeps F t → met_cells seen (enc t) ≡ met seen t
  met_enc F (var v) seen k = met_variable seen v
  met_enc F (app f ts) seen k = ap (λ (l : List ℕ). met_cells l (encs ts)) (met_function seen f k.1) ∙ met_encs F ts seen k.3

  pub met_encs : (F : List ℕ) (ts : Terms) (seen : List ℕ) → Keepss F ts → met_cells seen (encs ts) ≡ mets seen ts
  met_encs F nil seen k = refl
  met_encs F (cons t ts) seen k =
      met_cells_append seen (enc t) (encs ts)
      ∙ ap (λ (l : List ℕ). met_cells l (encs ts)) (met_enc F t seen k.0)
      ∙ met_encs F ts (met seen t) k.1

renamed_function : (f : ℕ → ℕ) (c : ℕ) → c < first_variable → renamed f c ≡ c
renamed_function f c h = rw (lt-ltb c first_variable h)

renamed_variable : (f : ℕ → ℕ) (v : ℕ) → renamed f (first_variable + v) ≡ first_variable + f v
renamed_variable f v =
    let e : first_variable + v - first_variable ≡ v = omega arith in
    rw (le-ltb (first_variable + v) first_variable (omega arith)) (ap (λ (x : ℕ). first_variable + f x) e)

-- a term's cells with the variables renamed
mutual
  pub enc_renamed : (F : List ℕ) (f : ℕ → ℕ) (t : Term) → Keeps F t → enc (sub t (λ v. var (f v))) ≡ map (renamed f) (enc t)
  enc_renamed F f (var v) k = ap (λ (c : ℕ). c ∷ []) (sym (renamed_variable f v))
  enc_renamed F f (app g ts) k = ap₂ (λ (c : ℕ) (l : List ℕ). c ∷ l) (sym (renamed_function f g k.1)) (encs_renamed F f ts k.3)

  pub encs_renamed : (F : List ℕ) (f : ℕ → ℕ) (ts : Terms) → Keepss F ts → encs (subs ts (λ v. var (f v))) ≡ map (renamed f) (encs ts)
  encs_renamed F f nil k = refl
  encs_renamed F f (cons t ts) k =
      ap₂ (λ (l m : List ℕ). l ++ m) (enc_renamed F f t k.0) (encs_renamed F f ts k.1)
      ∙ sym (map-append (renamed f) (enc t) (encs ts))

-- the same of an atom, whose first cell is its predicate's number
module _ (predicates functions : List ℕ) (few : length predicates ≤ max_declared) (A : Term) (a : Atom predicates functions A) where
  small : a.predicate < first_variable
  small = let d = a.declared in omega arith

  pub atom_met : met_cells [] (enc A) ≡ met [] A
  atom_met =
      ap (λ (t : Term). met_cells [] (enc t)) a.is
      ∙ ap (λ (l : List ℕ). met_cells l (encs a.arguments)) (met_function [] a.predicate small)
      ∙ met_encs functions a.arguments [] a.keeps
      ∙ ap (λ (t : Term). met [] t) (sym a.is)

  pub atom_renamed : (f : ℕ → ℕ) → enc (sub A (λ v. var (f v))) ≡ map (renamed f) (enc A)
  atom_renamed f =
      ap (λ (t : Term). enc (sub t (λ v. var (f v)))) a.is
      ∙ ap₂ (λ (c : ℕ) (l : List ℕ). c ∷ l) (sym (renamed_function f a.predicate small)) (encs_renamed functions f a.arguments a.keeps)
      ∙ ap (λ (t : Term). map (renamed f) (enc t)) (sym a.is)

  pub atom_all_cells : Cells (enc A)
  atom_all_cells = rw a.is at_each
    where
      at_each : Cells (a.predicate ∷ encs a.arguments)
      at_each zero h = let d = a.declared in omega arith
      at_each (suc i) h = cells_encs functions a.arguments a.keeps i (omega arith)

  pub atom_in_run : (v : ℕ) → InRun v (enc A) ↔ Occ v A
  atom_in_run v = rw a.is (λ o. there o, λ o. inr ((in_run_occs functions v a.arguments a.keeps).1 o))
    where
      there : (a.predicate ≡ first_variable + v) ⊎ InRun v (encs a.arguments) → Occs v a.arguments
      there (inl e) = let d = a.declared in absurd (omega arith)
      there (inr o) = (in_run_occs functions v a.arguments a.keeps).0 o
