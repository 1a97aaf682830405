-- What stands where, and which clauses a row concerns.
pub mod Standing
pub mod Active
pub mod Slots
