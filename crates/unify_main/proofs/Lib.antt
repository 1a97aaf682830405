-- The laws that the proofs of this program cite.
pub mod AtomRuns
