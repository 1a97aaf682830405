-- The laws of the index: the clause of a body atom, and the clauses that a row concerns.
pub mod BodyClauses
pub mod ActiveClauses
pub mod ClauseIndex
