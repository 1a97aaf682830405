-- A body atom of a program that stands in the words.
use Rattle.std.specs.Prelude.{ℕ}
use mathlib.Core.List.{List}
use Rattle.program.specs.Program.{Program}
use Rattle.steps.specs.Situation.{Setting, BodyOf}

pub record BodyIn (words dir : List ℕ) (j : ℕ) : Type 0 where
  pub p : Program
  pub setting : Setting words dir p
  pub body : BodyOf p j
