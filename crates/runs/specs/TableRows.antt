-- The rows that stand in the words of a table, and what an accepted table is trusted for.
use Rattle.std.specs.Prelude.{ℕ, ◌≡◌, ◌↔◌, List}
use Rattle.terms.specs.Term.{Term, Subst, sub, Occ, Ground}
use Rattle.terms.specs.Mask.{Has}
use Rattle.marks.specs.Modes.{modes}
use Rattle.program.specs.Program.{Nth, Program}
use Rattle.program.specs.Limits.{row_size}
use Rattle.program.specs.Shapes.{shapes}
use Rattle.program.specs.Faults.{faults, sound}
use Rattle.program.specs.declared.reply.Reply.{Reply}
use Rattle.table.specs.Rules.{Row, call}
use Rattle.table.specs.Rounds.{Least}
use Rattle.table.specs.Analysis.{StandsAmong}
use Rattle.table.specs.Table.{row_words}
use Rattle.runs.specs.Run.{Called}
use Rattle.runs.specs.Cover.{CoversRuns}

-- the row is one of the first n: "A row is five words: round, kind, a, b, mask."
abbrev pub StandsIn : ℕ → List ℕ → Row ℕ → Type 0
StandsIn = StandsAmong row_words row_size

-- what is promised to the customer of every accepted reply
pub record Trusted (words : List ℕ) (reply : Reply) (table : List ℕ) : Type 1 where
  pub p : Program
  pub says : faults words ≡ sound p
  -- the rows in the table are those of the least set
  pub rows : (row : Row ℕ) → StandsIn reply.count table row ↔ Least modes p p.grounded row
  -- they cover every run
  pub covers : CoversRuns modes p p.grounded (StandsIn reply.count table)
  -- a variable of a shape that every call row of that shape in the table marks has a ground term at every call of that shape
  pub ground_at_calls : (s : ℕ) (S : Term) → Nth (shapes p) s S → (v : ℕ) → Occ v S → ((M : ℕ) → StandsIn reply.count table (call s M) → Has M v)
      → (n : ℕ) (A : Term) → Called modes p p.grounded n s A → (σ : Subst) → A ≡ sub S σ → Ground (σ v)
