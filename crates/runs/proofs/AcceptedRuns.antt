-- Demand 3 for every accepted program: the least set of its rows covers every run, and a marked variable is ground at every call.
use Prim.Native.Nat.{ℕ}
use mathlib.Core.Path.{◌≡◌}
use mathlib.Core.List.{List}
use Rattle.terms.specs.Term.{Term, Subst, sub, Occ, Ground}
use Rattle.terms.specs.Mask.{Has}
use Rattle.marks.specs.Domain.{Domain, Sound}
use Rattle.marks.specs.Modes.{modes}
use Rattle.marks.proofs.Modes.{modes_sound}
use Rattle.program.specs.Program.{Nth, Program}
use Rattle.program.specs.Shapes.{shapes}
use Rattle.program.specs.Faults.{faults, sound}
use Rattle.program.proofs.GoalShape.{goal_own_shape}
use Rattle.table.specs.Rules.{call}
use Rattle.table.specs.Rounds.{Least}
use Rattle.runs.specs.Run.{Called}
use Rattle.runs.specs.Cover.{CoversRuns}
use Rattle.runs.proofs.TableCovers.{least_covers_runs}
use Rattle.runs.proofs.GroundCalls.{ground_at_calls}

module _ (words : List ℕ) (p : Program) (accepted : faults words ≡ sound p) where
  -- over every sound domain of marks
  pub accepted_covers : (D : Domain) → Sound D → (goal : D.Mark) → CoversRuns D p goal (Least D p goal)
  accepted_covers D s goal = least_covers_runs D s p goal (goal_own_shape words p accepted)

  -- for the modes, from the goal with ground terms for its ground variables
  pub accepted_covers_runs : CoversRuns modes p p.grounded (Least modes p p.grounded)
  accepted_covers_runs = accepted_covers modes modes_sound p.grounded

  -- "ground" can be trusted
  pub accepted_ground_at_calls : (s : ℕ) (S : Term) → Nth (shapes p) s S → (v : ℕ) → Occ v S → ((M : ℕ) → Least modes p p.grounded (call s M) → Has M v)
      → (n : ℕ) (A : Term) → Called modes p p.grounded n s A → (σ : Subst) → A ≡ sub S σ → Ground (σ v)
  accepted_ground_at_calls = ground_at_calls p (goal_own_shape words p accepted)
