-- The faults of an encoded program, from left to right, and the program that it says where there is none.
use Rattle.std.specs.Prelude.{ℕ, ◌+◌, ◌*◌, ◌-◌, List, [], ◌∷◌, length, ltb}
use Rattle.terms.specs.Term.{Term}
use Rattle.terms.specs.Cells.{pick}
use Rattle.program.specs.Limits.{max_words, min_predicates, max_declared, max_arity, max_body, any_mode, ground_mode}
use Rattle.program.specs.Reply.{out_of_range, bad_goal, follows, too_long, refused, done}
use Rattle.program.specs.Reading.{Decoded, wrong, right, next, bounded, several}
use Rattle.program.specs.Atoms.{atom, atoms}
use Rattle.program.specs.Program.{Clause, Program}
use Rattle.program.specs.declared.reply.Reply.{Reply}

-- "C clauses: a body length m (0 to 16), the head atom, m body atoms"
unfoldable pub clause : List ℕ → List ℕ → List ℕ → Decoded Clause
clause predicates functions ws =
    next (bounded out_of_range 0 max_body ws)
    (λ m rest. next (atom predicates functions 0 rest)
    (λ h rest'. next (atoms predicates functions m h.1 rest')
    (λ b rest''. right (record { head = h.0; body = b.0 }) rest'')))

-- the mask that has bit v set where mode v is ground
abbrev pub mask_of : List ℕ → ℕ
mask_of [] = 0
mask_of (mode ∷ modes) = mode + 2 * mask_of modes

-- "the top goal: one atom, its variable count k, then k modes (0 any, 1 ground)"; with it the mask of its ground variables
unfoldable pub goal : List ℕ → List ℕ → List ℕ → Decoded (Term × ℕ)
goal predicates functions ws =
    next (atom predicates functions 0 ws)
    (λ a rest. next (bounded bad_goal a.1 a.1 rest)
    (λ k rest'. next (several (bounded bad_goal any_mode ground_mode) k rest')
    (λ modes rest''. right (a.0, mask_of modes) rest'')))

-- "something follows the goal"
abbrev pub ended : {A : Type 0} → A → List ℕ → Decoded A
ended a [] = right a []
ended a (w ∷ ws) = wrong follows (w ∷ ws)

abbrev pub arities : ℕ → List ℕ → Decoded (List ℕ)
arities = several (bounded out_of_range 0 max_arity)

-- the clauses and the goal, behind the declarations
unfoldable pub written : List ℕ → List ℕ → ℕ → List ℕ → Decoded Program
written predicates functions n ws =
    next (several (clause predicates functions) n ws)
    (λ cs rest. next (goal predicates functions rest)
    (λ g rest'. ended (record { predicates = predicates; functions = functions; clauses = cs; goal = g.0; grounded = g.1 }) rest'))

-- "P predicate arities, then F function arities, each 0 to 8", and what is written with them
unfoldable pub declared : ℕ → ℕ → ℕ → List ℕ → Decoded Program
declared p f c ws = next (arities p ws) (λ ps rest. next (arities f rest) (λ fs rest'. written ps fs c rest'))

-- "predicate count P (1 to 64), function count F (0 to 64), clause count C (0 to 64)"
unfoldable pub whole : List ℕ → Decoded Program
whole ws =
    next (bounded out_of_range min_predicates max_declared ws)
    (λ p rest. next (bounded out_of_range 0 max_declared rest)
    (λ f rest'. next (bounded out_of_range 0 max_declared rest')
    (λ c rest''. declared p f c rest'')))

-- what is found in an input: a fault's number and place, or what it says
pub data Found (A : Type 0) : Type 0 where
  fault : ℕ → ℕ → Found A
  sound : A → Found A

-- "Places are word indexes for programs": a place is the number of words before it
abbrev pub found_in : List ℕ → Decoded Program → Found Program
found_in ws (wrong number rest) = fault number (length ws - length rest)
found_in ws (right p rest) = sound p

-- "The length comes first (8), then faults from left to right"
unfoldable pub faults : List ℕ → Found Program
faults ws = pick (ltb max_words (length ws)) (fault too_long max_words) (found_in ws (whole ws))

-- the reply of the scan alone: nothing is written
abbrev pub reply_of : Found Program → Reply
reply_of (fault number place) = refused number place
reply_of (sound p) = done 0
