-- The text of accepted words, part by part: the declarations, the clauses, the query.
use Prim.Native.Nat.{ℕ, ◌+◌, ◌-◌, ◌≤◌}
use mathlib.Core.Path.{◌≡◌, sym, ap, ◌∙◌}
use mathlib.Core.List.{List, ◌++◌}
use lib.ListN.{length, get_or, take, drop}
use Rattle.terms.specs.Cells.{enc}
use Rattle.program.specs.Program.{Program}
use Rattle.program.specs.Within.{after, modes_of}
use Rattle.directory.specs.Layout.{predicates_start}
use Rattle.directory.specs.Said.{said, Accepted}
use Rattle.directory.specs.From.{ClausesFrom, GoalFrom}
use Rattle.directory.proofs.AcceptedWords.{said_within, predicate_count, function_count, clause_count_law, predicates_are, functions_within, functions_are, clauses_within, clauses_cut, goal_part}
use Rattle.text_lines.specs.Keyword.{pred, func, query}
use Rattle.written_lines.specs.Tokens.{atom_tokens, line}
use Rattle.written_lines.specs.Lines.{declarations, clause_lines}
use Rattle.written_lines.specs.Walked.{Named}
use Rattle.writer.specs.Write.{text_of}

module _ (words : List ℕ) (a : Accepted words) (p f n : ℕ) (p-is : p ≡ get_or words 0 0) (f-is : f ≡ get_or words 1 0) (n-is : n ≡ get_or words 2 0) where
  abbrev program : Program
  program = said words

  -- the arities, as the code has them
  abbrev predicates : List ℕ
  predicates = take (predicates_start + p - predicates_start) (drop predicates_start words)

  abbrev functions : List ℕ
  functions = take (predicates_start + p + f - (predicates_start + p)) (drop (predicates_start + p) words)

  pub middle_is : predicates_start + p ≡ predicates_start + length program.predicates
  middle_is = ap (λ (k : ℕ). predicates_start + k) (p-is ∙ predicate_count words a)

  pub start_is : predicates_start + p + f ≡ predicates_start + p + length program.functions
  start_is = ap (λ (k : ℕ). predicates_start + p + k) (f-is ∙ function_count words a)

  pub predicates_said : predicates ≡ program.predicates
  predicates_said = predicates_are words a (predicates_start + p) middle_is

  pub functions_said : functions ≡ program.functions
  functions_said = functions_are words a (predicates_start + p) middle_is (predicates_start + p + f) start_is

  pub middle_within : predicates_start + p ≤ length words
  middle_within = functions_within words a (predicates_start + p) middle_is

  pub start_within : predicates_start + p + f ≤ length words
  start_within = clauses_within words a (predicates_start + p) middle_is (predicates_start + p + f) start_is

  pub named_parts : (names : List ℕ) → Named names (length program.predicates) (length program.functions) → Named names (length predicates) (length functions)
  named_parts names h = rw (predicates_said, functions_said) h

  abbrev pub clauses_to_come : ClausesFrom words (predicates_start + p + f) predicates functions n
  clauses_to_come =
      record {
        clauses = program.clauses;
        rest = goal_part program;
        cut = clauses_cut words a (predicates_start + p) middle_is (predicates_start + p + f) start_is;
        within = rw (predicates_said, functions_said) (said_within words a).clauses_within;
        many = sym (n-is ∙ clause_count_law words a);
      }

  abbrev pub goal_to_come : (at : ℕ) → drop at words ≡ goal_part program → GoalFrom words at predicates functions
  goal_to_come at e =
      record {
        goal = program.goal;
        grounded = program.grounded;
        cut = e;
        sound = rw (predicates_said, functions_said) (said_within words a).goal_atom;
        numbered = (said_within words a).goal_numbered;
        marks = (said_within words a).marks;
      }

  pub text_said : (names : List ℕ)
      → declarations pred names 0 predicates
      ++ (declarations func names (length predicates) functions
      ++ (clause_lines names (length predicates) program.clauses
      ++ line query (atom_tokens names (length predicates) (modes_of (after 0 program.goal) program.grounded) (enc program.goal))))
      ≡ text_of program names
  text_said names = rw (predicates_said, functions_said)
