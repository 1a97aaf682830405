-- The numbers of the faults of an encoded program: neither 0 nor 9, so that a reply of number 0 is a program's, and 9 the analysis' own; nor 10, which is withdrawn.
use Prim.Native.Nat.{ℕ, zero, suc, ◌+◌, ◌-◌, ◌<◌}
use native.Mathlib.Omega.{arith}
use mathlib.Core.Path.{◌≡◌, refl, ap, ◌∙◌}
use mathlib.Core.List.{List, [], ◌∷◌}
use lib.ListN.{length, get_or}
use lib.Dec.{ltb, leb}
use Rattle.terms.specs.Term.{Terms}
use Rattle.terms.specs.Cells.{first_variable, atom_cells, pick}
use Rattle.program.specs.Limits.{max_words, max_variable, min_predicates, max_declared, max_arity, max_body, any_mode, ground_mode}
use Rattle.program.specs.Reply.{out_of_range, bad_goal, bad_variable, long_atom, undeclared, too_long, no_room, withdrawn}
use Rattle.program.specs.Reading.{Decoded, wrong, right, next, bounded, several}
use Rattle.program.specs.Atoms.{Cell, Bad, Opens, meet, variable_of, symbol_of, cell_of, opened, terms, atom, atoms}
use Rattle.program.specs.Program.{Program}
use Rattle.program.specs.Faults.{clause, goal, ended, arities, written, declared, whole, Found, fault, sound, found_in, faults, reply_of}
use Rattle.program.specs.declared.reply.Reply.{Reply}
use Rattle.program.proofs.Taking.{pick_cases}

-- the number of a fault of the input, a program or a text
abbrev pub FaultNumber : ℕ → Type 0
FaultNumber number = (0 < number) × (number ≡ no_room → ⊥) × (number ≡ withdrawn → ⊥)

-- the fault, where there is one, has such a number
abbrev pub FaultyBy : {A : Type 0} → Decoded A → Type 0
FaultyBy (wrong number rest) = FaultNumber number
FaultyBy (right a rest) = Unit {0}

faulty_next : {A B : Type 0} (r : Decoded A) (f : A → List ℕ → Decoded B) → FaultyBy r → ((a : A) (rest : List ℕ) → FaultyBy (f a rest)) → FaultyBy (next r f)
faulty_next (wrong number rest) f h g = h
faulty_next (right a rest) f h g = g a rest

faulty_bounded : (number low high : ℕ) → FaultNumber number → (ws : List ℕ) → FaultyBy (bounded number low high ws)
unfolding bounded
faulty_bounded number low high n [] = (omega arith)
faulty_bounded number low high n (w ∷ ws) =
    pick_cases FaultyBy (leb low w) (pick (leb w high) (right w ws) (wrong number (w ∷ ws))) (wrong number (w ∷ ws))
    (λ _. pick_cases FaultyBy (leb w high) (right w ws) (wrong number (w ∷ ws)) (λ _. tt) (λ _. n))
    (λ _. n)

faulty_several : {A : Type 0} (part : List ℕ → Decoded A) → ((ws : List ℕ) → FaultyBy (part ws)) → (n : ℕ) (ws : List ℕ) → FaultyBy (several part n ws)
unfolding several
faulty_several part h zero ws = tt
faulty_several part h (suc n) ws =
    faulty_next (part ws) (λ a rest. next (several part n rest) (λ others rest'. right (a ∷ others) rest')) (h ws)
    (λ a rest. faulty_next (several part n rest) (λ others rest'. right (a ∷ others) rest') (faulty_several part h n rest) (λ _ _. tt))

-- a bad cell has such a number
abbrev CellFault : Cell → Type 0
CellFault (Bad number) = FaultNumber number
CellFault (Opens arity seen) = Unit {0}

faulty_cell : (functions : List ℕ) (taken seen w : ℕ) → CellFault (cell_of functions taken seen w)
faulty_cell functions taken seen w =
    pick_cases CellFault (ltb taken atom_cells) (symbol_of functions seen w) (Bad long_atom)
    (λ _. pick_cases CellFault (ltb w first_variable)
    (pick (ltb w (length functions)) (Opens (get_or functions w 0) seen) (Bad undeclared))
    (variable_of seen (w - first_variable))
    (λ _. pick_cases CellFault (ltb w (length functions)) (Opens (get_or functions w 0) seen) (Bad undeclared) (λ _. tt) (λ _. (omega arith)))
    (λ _. pick_cases CellFault (ltb max_variable (w - first_variable)) (Bad bad_variable)
    (pick (ltb seen (w - first_variable)) (Bad bad_variable) (Opens 0 (meet seen (w - first_variable))))
    (λ _. (omega arith))
    (λ _. pick_cases CellFault (ltb seen (w - first_variable)) (Bad bad_variable) (Opens 0 (meet seen (w - first_variable))) (λ _. (omega arith)) (λ _. tt))))
    (λ _. (omega arith))

faulty_opened : (cell : Cell) (w : ℕ) (ws : List ℕ) (read : ℕ → ℕ → Decoded (Terms × ℕ)) → CellFault cell → ((arity seen : ℕ) → FaultyBy (read arity seen)) → FaultyBy (opened cell w ws read)
faulty_opened (Bad number) w ws read h g = h
faulty_opened (Opens arity seen) w ws read h g = faulty_next (read arity seen) _ (g arity seen) (λ _ _. tt)

faulty_terms : (functions ws : List ℕ) (n taken seen : ℕ) → FaultyBy (terms functions ws n taken seen)
unfolding terms
faulty_terms functions [] zero taken seen = tt
faulty_terms functions [] (suc n) taken seen = (omega arith)
faulty_terms functions (w ∷ ws) zero taken seen = tt
faulty_terms functions (w ∷ ws) (suc n) taken seen =
    faulty_opened (cell_of functions taken seen w) w ws (λ arity met. terms functions ws (arity + n) (suc taken) met)
    (faulty_cell functions taken seen w) (λ arity met. faulty_terms functions ws (arity + n) (suc taken) met)

faulty_atom : (predicates functions : List ℕ) (seen : ℕ) (ws : List ℕ) → FaultyBy (atom predicates functions seen ws)
unfolding atom
faulty_atom predicates functions seen [] = (omega arith)
faulty_atom predicates functions seen (w ∷ ws) =
    pick_cases FaultyBy (ltb w (length predicates)) (next (terms functions ws (get_or predicates w 0) 1 seen) _) (wrong undeclared (w ∷ ws))
    (λ _. faulty_next (terms functions ws (get_or predicates w 0) 1 seen) _ (faulty_terms functions ws (get_or predicates w 0) 1 seen) (λ _ _. tt))
    (λ _. (omega arith))

faulty_atoms : (predicates functions : List ℕ) (n seen : ℕ) (ws : List ℕ) → FaultyBy (atoms predicates functions n seen ws)
unfolding atoms
faulty_atoms predicates functions zero seen ws = tt
faulty_atoms predicates functions (suc n) seen ws =
    faulty_next (atom predicates functions seen ws) _ (faulty_atom predicates functions seen ws)
    (λ a rest. faulty_next (atoms predicates functions n a.1 rest) _ (faulty_atoms predicates functions n a.1 rest) (λ _ _. tt))

faulty_clause : (predicates functions ws : List ℕ) → FaultyBy (clause predicates functions ws)
unfolding clause
faulty_clause predicates functions ws =
    faulty_next (bounded out_of_range 0 max_body ws) _ (faulty_bounded out_of_range 0 max_body (omega arith) ws)
    (λ m rest. faulty_next (atom predicates functions 0 rest) _ (faulty_atom predicates functions 0 rest)
    (λ h rest'. faulty_next (atoms predicates functions m h.1 rest') _ (faulty_atoms predicates functions m h.1 rest') (λ _ _. tt)))

faulty_goal : (predicates functions ws : List ℕ) → FaultyBy (goal predicates functions ws)
unfolding goal
faulty_goal predicates functions ws =
    faulty_next (atom predicates functions 0 ws) _ (faulty_atom predicates functions 0 ws)
    (λ a rest. faulty_next (bounded bad_goal a.1 a.1 rest) _ (faulty_bounded bad_goal a.1 a.1 (omega arith) rest)
    (λ k rest'. faulty_next (several (bounded bad_goal any_mode ground_mode) k rest') _
    (faulty_several (bounded bad_goal any_mode ground_mode) (faulty_bounded bad_goal any_mode ground_mode (omega arith)) k rest') (λ _ _. tt)))

faulty_written : (predicates functions : List ℕ) (n : ℕ) (ws : List ℕ) → FaultyBy (written predicates functions n ws)
unfolding written
faulty_written predicates functions n ws =
    faulty_next (several (clause predicates functions) n ws) _ (faulty_several (clause predicates functions) (faulty_clause predicates functions) n ws)
    (λ cs rest. faulty_next (goal predicates functions rest) _ (faulty_goal predicates functions rest) (λ g rest'. at _ rest'))
  where
    at : (p : Program) (rest : List ℕ) → FaultyBy (ended p rest)
    at p [] = tt
    at p (w ∷ rest) = (omega arith)

faulty_arities : (n : ℕ) (ws : List ℕ) → FaultyBy (arities n ws)
faulty_arities = faulty_several (bounded out_of_range 0 max_arity) (faulty_bounded out_of_range 0 max_arity (omega arith))

faulty_whole : (ws : List ℕ) → FaultyBy (whole ws)
unfolding whole declared
faulty_whole ws =
    faulty_next (bounded out_of_range min_predicates max_declared ws) _ (faulty_bounded out_of_range min_predicates max_declared (omega arith) ws)
    (λ p rest. faulty_next (bounded out_of_range 0 max_declared rest) _ (faulty_bounded out_of_range 0 max_declared (omega arith) rest)
    (λ f rest'. faulty_next (bounded out_of_range 0 max_declared rest') _ (faulty_bounded out_of_range 0 max_declared (omega arith) rest')
    (λ c rest''. faulty_next (arities p rest'') _ (faulty_arities p rest'')
    (λ ps r. faulty_next (arities f r) _ (faulty_arities f r) (λ fs r'. faulty_written ps fs c r')))))

abbrev FoundFault : Found Program → Type 0
FoundFault (fault number place) = FaultNumber number
FoundFault (sound p) = Unit {0}

found_fault : (ws : List ℕ) → FoundFault (faults ws)
unfolding faults
found_fault ws =
    pick_cases FoundFault (ltb max_words (length ws)) (fault too_long max_words) (found_in ws (whole ws)) (λ _. (omega arith)) (λ _. at (whole ws) (faulty_whole ws))
  where
    at : (r : Decoded Program) → FaultyBy r → FoundFault (found_in ws r)
    at (wrong number rest) h = h
    at (right p rest) h = tt

pub fault_number : (ws : List ℕ) (number place : ℕ) → faults ws ≡ fault number place → FaultNumber number
fault_number ws number place e = rw e at (found_fault ws)

-- the scan's number is 0 only for a program
pub accepted_sound : (words : List ℕ) (r : Reply) → r ≡ reply_of (faults words) → r.number ≡ 0 → (p : Program) × (faults words ≡ sound p)
accepted_sound words r is z = at (faults words) refl
  where
    at : (f : Found Program) → faults words ≡ f → (p : Program) × (faults words ≡ sound p)
    at (sound p) e = (p, e)
    at (fault number place) e =
        let n : r.number ≡ number = ap (λ (x : Reply). x.number) (is ∙ ap reply_of e) in
        absurd (omega (arith, fault_number words number place e))
