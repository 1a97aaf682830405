-- The symbols that are declared: their names, and how many arguments each takes.
use Rattle.std.specs.Prelude.{ℕ, List}

pub record Symbols : Type 0 where
  pub predicates : ℕ
  pub functions : ℕ
  -- "Each name is kept as 16 bytes, padded with zeros, predicates first."
  pub names : List ℕ
  -- "P predicate arities, then F function arities"; words behind them say nothing of a symbol
  pub arities : List ℕ
