-- The cells of a clause or query line, one token each, as they are read.
pub mod Symbols
pub mod TextSoFar
pub mod Cells
pub mod Room
