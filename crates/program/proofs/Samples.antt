-- Document 01's first samples, read by `faults`.
use Prim.Native.Nat.{ℕ}
use mathlib.Core.Path.{◌≡◌, refl}
use mathlib.Core.List.{List, [], ◌∷◌}
use Rattle.terms.specs.Term.{var, app, nil, cons}
use Rattle.program.specs.Reading.{bounded, several}
use Rattle.program.specs.Atoms.{terms, atom, atoms}
use Rattle.program.specs.Faults.{clause, goal, written, declared, whole, fault, sound, faults}

-- "the empty slice (1, place 0)"
pub empty_slice : faults [] ≡ fault 1 0
unfolding bounded whole faults
empty_slice = refl

-- "words 1 0 0 0 0 0": one predicate without arguments, which is the goal
pub least_program :
    faults (1 ∷ 0 ∷ 0 ∷ 0 ∷ 0 ∷ 0 ∷ []) ≡ sound (record { predicates = 0 ∷ []; functions = []; clauses = []; goal = app 0 nil; grounded = 0 })
unfolding bounded several terms atom atoms clause goal written declared whole faults
least_program = refl

-- "something follows the goal"
pub one_word_too_many : faults (1 ∷ 0 ∷ 0 ∷ 0 ∷ 0 ∷ 0 ∷ 0 ∷ []) ≡ fault 7 6
unfolding bounded several terms atom atoms clause goal written declared whole faults
one_word_too_many = refl

pub legs : List ℕ
legs =
    2 ∷ 2 ∷ 3 ∷ 2 ∷ 2 ∷ 0 ∷ 0 ∷ 1 ∷ 0 ∷ 32768 ∷ 32769 ∷ 1 ∷ 32768 ∷ 32769
    ∷ 0 ∷ 1 ∷ 0 ∷ 1 ∷ 0 ∷ 1 ∷ 1 ∷ 32768 ∷ 0 ∷ 32768 ∷ 32769 ∷ 2 ∷ 1 ∷ 0 ∷ []

-- *Legs*, as its text says it: function 0 is `a`, 1 is `b`
pub legs_read :
    faults legs
    ≡ sound
    (record {
      predicates = 2 ∷ 2 ∷ [];
      functions = 0 ∷ 0 ∷ [];
      clauses =
          record { head = app 0 (cons (var 0) (cons (var 1) nil)); body = app 1 (cons (var 0) (cons (var 1) nil)) ∷ [] }
          ∷ record { head = app 1 (cons (app 0 nil) (cons (app 1 nil) nil)); body = [] }
          ∷ record { head = app 1 (cons (app 1 nil) (cons (var 0) nil)); body = [] }
          ∷ [];
      goal = app 0 (cons (var 0) (cons (var 1) nil));
      grounded = 1;
    })
unfolding bounded several terms atom atoms clause goal written declared whole faults legs
legs_read = refl
