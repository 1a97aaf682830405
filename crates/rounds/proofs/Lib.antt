-- The laws of the rounds: a round over the clauses that a new row concerns, the rounds until one adds no row, and a turn of their loop.
pub mod RoundClauses
pub mod RoundByRound
pub mod RoundTurns
