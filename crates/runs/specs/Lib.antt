-- Runs of a program, and what it means that a row covers an atom of a run.
pub mod Run
pub mod Cover
pub mod TableRows
