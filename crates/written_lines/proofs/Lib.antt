-- The laws of cells, atoms and clauses that are written as they are walked.
pub mod LineTexts
pub mod CellWalk
pub mod AtomWalk
pub mod ClauseWalk
