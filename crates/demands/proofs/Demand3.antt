-- Demand 3: "Every run is covered. Any accepted program and goal, any instance with ground terms for the ground variables, run left to right for any number of steps
-- with fresh clauses and any finite unifying substitution, most general or not: every atom called is covered by a call row of demand 2's table with the shape it was
-- written in, every atom solved by a solution row of that shape." Here of the rows that stand in the words which an accepted analysis leaves; `Demand2`: the least set's.
-- It is not empty: `runs` has a worked run whose substitution is not most general (`LegsRun`), and a table with one row missing that does not cover (`WrongTable`).
use Prim.Native.Nat.{ℕ}
use mathlib.Core.Path.{◌≡◌}
use mathlib.Core.List.{List}
use Rattle.terms.specs.Term.{Term, Subst, sub, Occ, Ground}
use Rattle.terms.specs.Mask.{Has}
use Rattle.marks.specs.Modes.{modes}
use Rattle.program.specs.Program.{Nth, Program}
use Rattle.program.specs.Shapes.{shapes}
use Rattle.program.specs.Reply.{accepted}
use Rattle.program.specs.Faults.{sound, faults}
use Rattle.program.specs.declared.reply.Reply.{Reply}
use Rattle.table.specs.Rules.{call, solution}
use Rattle.program.proofs.FoundLaws.{sound_same}
use Rattle.runs.specs.Run.{Called, Solved}
use Rattle.runs.specs.Cover.{Covered, CoversRuns}
use Rattle.runs.specs.TableRows.{StandsIn}
use Rattle.runs.proofs.TableRuns.{promise_trusted}
use Rattle.demands.specs.Promises.{Analyses}

-- "Any accepted program and goal": words that say the program p, and a reply with number 0 and a table that the analysis promises
module _ (words : List ℕ) (p : Program) (says : faults words ≡ sound p)
    (size : ℕ) (reply : Reply) (table : List ℕ) (promised : Analyses words size reply table) (number-0 : reply.number ≡ accepted) where
  pub every_run_covered : CoversRuns modes p p.grounded (StandsIn reply.count table)
  every_run_covered = let t = promise_trusted words size reply table promised number-0 in rw (sound_same _ t.says says) at t.covers

  -- "any instance with ground terms for the ground variables, run left to right for any number of steps with fresh clauses and any finite unifying substitution,
  -- most general or not" is `Called` and `Solved`: n steps lead to the call, or to the solution, of the atom A that was written in shape s
  module _ (n s : ℕ) (A : Term) where
    -- "every atom called is covered by a call row of demand 2's table with the shape it was written in"
    pub every_call_covered : Called modes p p.grounded n s A → (M : ℕ) × StandsIn reply.count table (call s M) × Covered modes p s M A
    every_call_covered called = every_run_covered.calls n s A called

    -- "every atom solved by a solution row of that shape"
    pub every_solution_covered : Solved modes p p.grounded n s A → (M : ℕ) × StandsIn reply.count table (solution s M) × Covered modes p s M A
    every_solution_covered solved = every_run_covered.solutions n s A solved

    -- so "ground" can be relied on: a variable that every call row of the shape marks has a ground term at every call of that shape
    pub marked_is_ground : (S : Term) → Nth (shapes p) s S → (v : ℕ) → Occ v S → ((M : ℕ) → StandsIn reply.count table (call s M) → Has M v)
        → Called modes p p.grounded n s A → (σ : Subst) → A ≡ sub S σ → Ground (σ v)
    marked_is_ground S numbered v occurs marked =
        let t = promise_trusted words size reply table promised number-0 in
        (rw (sound_same _ t.says says) at t.ground_at_calls) s S numbered v occurs marked n A
