-- The laws of one line: a clause or the query put behind the words, and a line by its keyword.
pub mod AtomLines
pub mod LineKinds
