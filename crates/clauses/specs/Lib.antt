-- What a round asks of a clause, and what it gives.
pub mod Clauses
pub mod Working
