-- The lines of a text: declarations, clauses, the query.
pub mod Keyword
pub mod Lines
pub mod Goal
