-- The goal of every program that the fault scan accepts is its own shape: its variables are numbered from 0 by first appearance.
use Prim.Native.Nat.{ℕ, zero, suc, ◌+◌, ◌-◌, ◌≤◌}
use native.Mathlib.Omega.{arith}
use native.Mathlib.Decide.{ℕ_discrete}
use mathlib.Core.Path.{◌≡◌, refl, ◌∙◌}
use mathlib.Core.Bool.{true, false}
use mathlib.Core.List.{List, [], ◌∷◌}
use lib.ListN.{length, get_or}
use lib.Dec.{ltb}
use borrow.Author.Tests.{ltb-true, ltb-false}
use Rattle.terms.specs.Term.{Term, Terms, app, nil, cons}
use Rattle.terms.specs.Cells.{first_variable, atom_cells, take_terms, drop_terms, pick}
use Rattle.program.specs.Limits.{max_words, max_variable, min_predicates, max_declared, any_mode, ground_mode}
use Rattle.program.specs.Reply.{out_of_range, bad_goal, bad_variable, long_atom, undeclared, too_long}
use Rattle.program.specs.Reading.{Decoded, wrong, right, next, bounded, several}
use Rattle.program.specs.Atoms.{Cell, Bad, Opens, meet, variable_of, symbol_of, cell_of, opened, terms, atom}
use Rattle.program.specs.Faults.{goal, ended, arities, clause, written, declared, whole, Found, fault, sound, found_in, faults}
use Rattle.program.specs.Program.{Program}
use Rattle.program.specs.Shapes.{with, met, mets, shape_of}
use Rattle.program.proofs.Taking.{pick_cases}
use Rattle.program.proofs.OwnShape.{up_to, with_up_to_old, with_up_to_next, own_shape}

-- what was read, where it was read without fault, is P
abbrev pub Gets : {A : Type 0} → (A → Type 0) → Decoded A → Type 0
Gets P (wrong number rest) = Unit {0}
Gets P (right a rest) = P a

pub gets_next : {A B : Type 0} (Q : A → Type 0) (P : B → Type 0) (r : Decoded A) (f : A → List ℕ → Decoded B)
    → Gets Q r → ((a : A) (rest : List ℕ) → Q a → Gets P (f a rest)) → Gets P (next r f)
gets_next Q P (wrong number rest) f q h = tt
gets_next Q P (right a rest) f q h = h a rest q

-- whatever was read
pub gets_any : {A : Type 0} (r : Decoded A) → Gets (λ _. Unit {0}) r
gets_any (wrong number rest) = tt
gets_any (right a rest) = tt

pub gets_after : {A B : Type 0} (P : B → Type 0) (r : Decoded A) (f : A → List ℕ → Decoded B) → ((a : A) (rest : List ℕ) → Gets P (f a rest)) → Gets P (next r f)
gets_after P r f h = gets_next (λ _. Unit {0}) P r f (gets_any r) (λ a rest _. h a rest)

-- the variables of some terms and then of the others are those of all
pub mets_split : (n : ℕ) (ts : Terms) (seen : List ℕ) → mets (mets seen (take_terms n ts)) (drop_terms n ts) ≡ mets seen ts
mets_split zero ts seen = refl
mets_split (suc n) nil seen = refl
mets_split (suc n) (cons t ts) seen = mets_split n ts (met seen t)

-- "a variable .. skips a number": one that does not is old or the next
pub meet_with : (seen v : ℕ) → v ≤ seen → with ℕ_discrete (up_to seen) v ≡ up_to (meet seen v)
meet_with seen v h =
    pick_cases (λ n. with ℕ_discrete (up_to seen) v ≡ up_to n) (ltb v seen) seen (suc v)
    (λ t. with_up_to_old seen v (ltb-true _ _ t))
    (λ t. let l = ltb-false v seen t in let e : seen ≡ v = omega arith in rw e (with_up_to_next v))

-- with so many variables met before, the terms' variables are numbered by first appearance
abbrev pub InOrder : ℕ → Terms × ℕ → Type 0
InOrder seen r = mets (up_to seen) r.0 ≡ up_to r.1

module _ (functions : List ℕ) (w : ℕ) (ws : List ℕ) (taken seen : ℕ) (read : ℕ → ℕ → Decoded (Terms × ℕ)) (below : (arity now : ℕ) → Gets (InOrder now) (read arity now)) where
  pub variable_in_order : ltb w first_variable ≡ false → (v : ℕ) → v ≡ w - first_variable → v ≤ seen → Gets (InOrder seen) (opened (Opens 0 (meet seen v)) w ws read)
  variable_in_order t v e h =
      gets_next (InOrder (meet seen v)) (InOrder seen) (read 0 (meet seen v)) _ (below 0 (meet seen v))
      (λ r rest q. rw t (rw (← e) (rw (meet_with seen v h) q)))

  pub function_in_order : ltb w first_variable ≡ true → (arity : ℕ) → Gets (InOrder seen) (opened (Opens arity seen) w ws read)
  function_in_order t arity =
      gets_next (InOrder seen) (InOrder seen) (read arity seen) _ (below arity seen)
      (λ r rest q. rw t (mets_split arity r.0 (up_to seen) ∙ q))

  abbrev Opened : Cell → Type 0
  Opened cell = Gets (InOrder seen) (opened cell w ws read)

  pub cell_in_order : Opened (cell_of functions taken seen w)
  cell_in_order =
      pick_cases Opened (ltb taken atom_cells) (symbol_of functions seen w) (Bad long_atom)
      (λ _. pick_cases Opened (ltb w first_variable)
      (pick (ltb w (length functions)) (Opens (get_or functions w 0) seen) (Bad undeclared))
      (variable_of seen (w - first_variable))
      (λ t. pick_cases Opened (ltb w (length functions)) (Opens (get_or functions w 0) seen) (Bad undeclared) (λ _. function_in_order t (get_or functions w 0)) (λ _. tt))
      (λ t. pick_cases Opened (ltb max_variable (w - first_variable)) (Bad bad_variable)
      (pick (ltb seen (w - first_variable)) (Bad bad_variable) (Opens 0 (meet seen (w - first_variable))))
      (λ _. tt)
      (λ _. pick_cases Opened (ltb seen (w - first_variable)) (Bad bad_variable) (Opens 0 (meet seen (w - first_variable)))
      (λ _. tt)
      (λ l. variable_in_order t (w - first_variable) refl (ltb-false _ _ l)))))
      (λ _. tt)

pub terms_in_order : (functions ws : List ℕ) (n taken seen : ℕ) → Gets (InOrder seen) (terms functions ws n taken seen)
unfolding terms
terms_in_order functions [] zero taken seen = refl
terms_in_order functions [] (suc n) taken seen = tt
terms_in_order functions (w ∷ ws) zero taken seen = refl
terms_in_order functions (w ∷ ws) (suc n) taken seen =
    cell_in_order functions w ws taken seen (λ arity now. terms functions ws (arity + n) (suc taken) now) (λ arity now. terms_in_order functions ws (arity + n) (suc taken) now)

pub atom_in_order : (predicates functions : List ℕ) (seen : ℕ) (ws : List ℕ) → Gets (λ r. met (up_to seen) r.0 ≡ up_to r.1) (atom predicates functions seen ws)
unfolding atom
atom_in_order predicates functions seen [] = tt
atom_in_order predicates functions seen (w ∷ ws) =
    pick_cases (Gets (λ r. met (up_to seen) r.0 ≡ up_to r.1)) (ltb w (length predicates))
    (next (terms functions ws (get_or predicates w 0) 1 seen) (λ r rest. right (app w r.0, r.1) rest))
    (wrong undeclared (w ∷ ws))
    (λ _. gets_next (InOrder seen) _ (terms functions ws (get_or predicates w 0) 1 seen) _ (terms_in_order functions ws (get_or predicates w 0) 1 seen) (λ r rest q. q))
    (λ _. tt)

abbrev pub Own : Term → Type 0
Own t = shape_of t ≡ t

pub goal_own : (predicates functions ws : List ℕ) → Gets (λ g. Own g.0) (goal predicates functions ws)
unfolding goal
goal_own predicates functions ws =
    gets_next (λ r. met [] r.0 ≡ up_to r.1) _ (atom predicates functions 0 ws) _ (atom_in_order predicates functions 0 ws)
    (λ a rest q. gets_after _ (bounded bad_goal a.1 a.1 rest) _
    (λ k rest'. gets_after _ (several (bounded bad_goal any_mode ground_mode) k rest') _
    (λ modes rest''. own_shape a.0 a.1 q)))

pub written_own : (predicates functions : List ℕ) (n : ℕ) (ws : List ℕ) → Gets (λ p. Own p.goal) (written predicates functions n ws)
unfolding written
written_own predicates functions n ws =
    gets_after _ (several (clause predicates functions) n ws) _
    (λ cs rest. gets_next (λ g. Own g.0) _ (goal predicates functions rest) _ (goal_own predicates functions rest) (λ g rest' q. at _ rest' q))
  where
    at : (p : Program) (rest : List ℕ) → Own p.goal → Gets (λ p'. Own p'.goal) (ended p rest)
    at p [] q = q
    at p (w ∷ rest) q = tt

pub whole_own : (ws : List ℕ) → Gets (λ p. Own p.goal) (whole ws)
unfolding whole declared
whole_own ws =
    gets_after _ (bounded out_of_range min_predicates max_declared ws) _
    (λ p rest. gets_after _ (bounded out_of_range 0 max_declared rest) _
    (λ f rest'. gets_after _ (bounded out_of_range 0 max_declared rest') _
    (λ c rest''. gets_after _ (arities p rest'') _ (λ ps r. gets_after _ (arities f r) _ (λ fs r'. written_own ps fs c r')))))

-- every accepted program
abbrev pub Accepts : (Program → Type 0) → Found Program → Type 0
Accepts P (fault number place) = Unit {0}
Accepts P (sound p) = P p

pub accepted_own : (ws : List ℕ) → Accepts (λ p. Own p.goal) (faults ws)
unfolding faults
accepted_own ws =
    pick_cases (Accepts (λ p. Own p.goal)) (ltb max_words (length ws)) (fault too_long max_words) (found_in ws (whole ws)) (λ _. tt)
    (λ _. at (whole ws) (whole_own ws))
  where
    at : (r : Decoded Program) → Gets (λ p. Own p.goal) r → Accepts (λ p. Own p.goal) (found_in ws r)
    at (wrong number rest) q = tt
    at (right p rest) q = q

pub goal_own_shape : (ws : List ℕ) (p : Program) → faults ws ≡ sound p → shape_of p.goal ≡ p.goal
goal_own_shape ws p e = rw e at (accepted_own ws)
