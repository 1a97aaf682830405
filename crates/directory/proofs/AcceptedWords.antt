-- Accepted words, part by part: the counts, the arities, the clauses and the goal.
use Prim.Native.Nat.{ℕ, ◌+◌, ◌-◌, ◌≤◌, ◌<◌}
use native.Mathlib.Omega.{arith}
use mathlib.Core.Path.{◌≡◌, refl, sym, ap, ◌∙◌}
use mathlib.Core.List.{List, ◌∷◌, ◌++◌}
use lib.ListN.{length, get_or, take, drop}
use Rattle.terms.specs.Cells.{enc}
use Rattle.program.specs.Limits.{max_words}
use Rattle.program.specs.Program.{Program}
use Rattle.program.specs.Faults.{sound, faults}
use Rattle.program.specs.Within.{after, modes_of, encode_clauses, encode, WithinLimits}
use Rattle.program.proofs.ProgramWords.{sound_encoded, sound_within}
use Rattle.directory.specs.Layout.{predicates_start}
use Rattle.directory.specs.Said.{program_in, said, Accepted}
use Rattle.directory.specs.From.{ClausesFrom, GoalFrom}
use Rattle.directory.proofs.Cuts.{middle_part, cut_within, cut_behind, cut_part}

-- the program that is found is the one that the words say
pub said_is : (words : List ℕ) (p : Program) → faults words ≡ sound p → said words ≡ p
said_is words p e = ap program_in e

pub said_sound : (words : List ℕ) → Accepted words → faults words ≡ sound (said words)
said_sound words a = a.1 ∙ ap sound (sym (said_is words a.0 a.1))

pub said_within : (words : List ℕ) → Accepted words → WithinLimits (said words)
said_within words a = sound_within words (said words) (said_sound words a)

-- the clauses and the goal
abbrev pub goal_part : Program → List ℕ
goal_part p = enc p.goal ++ after 0 p.goal ∷ modes_of (after 0 p.goal) p.grounded

pub said_words : (words : List ℕ) → Accepted words
    → length (said words).predicates ∷ length (said words).functions ∷ length (said words).clauses
    ∷ (said words).predicates ++ ((said words).functions ++ (encode_clauses (said words).clauses ++ goal_part (said words))) ≡ words
unfolding encode
said_words words a = sound_encoded words (said words) (said_sound words a)

module _ (words : List ℕ) (a : Accepted words) where
  abbrev p : Program
  p = said words

  pub words_short : length words ≤ max_words
  words_short = rw (sound_encoded words (said words) (said_sound words a)) at (said_within words a).words_most

  pub first_three : 2 < length words
  first_three = rw (← said_words words a) (omega arith)

  pub predicate_count : get_or words 0 0 ≡ length p.predicates
  predicate_count = sym (ap (λ (l : List ℕ). get_or l 0 0) (said_words words a))

  pub function_count : get_or words 1 0 ≡ length p.functions
  function_count = sym (ap (λ (l : List ℕ). get_or l 1 0) (said_words words a))

  pub clause_count_law : get_or words 2 0 ≡ length p.clauses
  clause_count_law = sym (ap (λ (l : List ℕ). get_or l 2 0) (said_words words a))

  predicates_cut : drop predicates_start words ≡ p.predicates ++ (p.functions ++ (encode_clauses p.clauses ++ goal_part p))
  predicates_cut = sym (ap (drop predicates_start) (said_words words a))

  module _ (f : ℕ) (f-is : f ≡ predicates_start + length p.predicates) where
    pub predicates_are : take (f - predicates_start) (drop predicates_start words) ≡ p.predicates
    predicates_are = rw f-is (middle_part words predicates_start (length p.predicates) ∙ cut_part words predicates_start p.predicates (p.functions ++ (encode_clauses p.clauses ++ goal_part p)) predicates_cut)

    functions_cut : drop f words ≡ p.functions ++ (encode_clauses p.clauses ++ goal_part p)
    functions_cut = rw f-is (cut_behind words predicates_start p.predicates (p.functions ++ (encode_clauses p.clauses ++ goal_part p)) predicates_cut)

    pub functions_within : f ≤ length words
    functions_within = rw f-is (cut_within words predicates_start p.predicates (p.functions ++ (encode_clauses p.clauses ++ goal_part p)) predicates_cut (let h = first_three in omega arith))

    module _ (at : ℕ) (at-is : at ≡ f + length p.functions) where
      pub functions_are : take (at - f) (drop f words) ≡ p.functions
      functions_are = rw at-is (middle_part words f (length p.functions) ∙ cut_part words f p.functions (encode_clauses p.clauses ++ goal_part p) functions_cut)

      pub clauses_within : at ≤ length words
      clauses_within = rw at-is (cut_within words f p.functions (encode_clauses p.clauses ++ goal_part p) functions_cut functions_within)

      pub clauses_cut : drop at words ≡ encode_clauses p.clauses ++ goal_part p
      clauses_cut = rw at-is (cut_behind words f p.functions (encode_clauses p.clauses ++ goal_part p) functions_cut)

      abbrev pub clauses_from : ClausesFrom words at p.predicates p.functions (length p.clauses)
      clauses_from = record { clauses = p.clauses; rest = goal_part p; cut = clauses_cut; within = (said_within words a).clauses_within; many = refl }

  abbrev pub goal_from : (at : ℕ) → drop at words ≡ goal_part p → GoalFrom words at p.predicates p.functions
  goal_from at e =
      record {
        goal = p.goal;
        grounded = p.grounded;
        cut = e;
        sound = (said_within words a).goal_atom;
        numbered = (said_within words a).goal_numbered;
        marks = (said_within words a).marks;
      }
