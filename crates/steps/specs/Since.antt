-- New rows of a predicate's shapes.
use Rattle.std.specs.Prelude.{ℕ, ◌+◌, ◌≤◌, ◌<◌, ◌≡◌, List, length, get_or}
use Rattle.terms.specs.Term.{Term}
use Rattle.program.specs.Program.{Nth, Program}
use Rattle.program.specs.Shapes.{shapes}
use Rattle.program.specs.Limits.{max_shapes}
use Rattle.directory.specs.Directory.{predicate_of}
use Rattle.steps.specs.Situation.{Setting}

-- one of the predicate's shapes has, in its slot from `first` on, a row from `since` on
abbrev pub SinceIn : Program → List ℕ → ℕ → ℕ → ℕ → Type 0
SinceIn p heads predicate first since =
    (s : ℕ) × (S : Term) × Nth (shapes p) s S × (predicate_of S ≡ predicate) × (since < get_or heads (first + s) 0)

-- what is asked of a predicate's shapes
pub record PredicateAsked (dir heads : List ℕ) (predicate first : ℕ) : Type 0 where
  pub words : List ℕ
  pub p : Program
  pub setting : Setting words dir p
  pub declared : predicate < length p.predicates
  pub slots_there : first + max_shapes ≤ length heads
