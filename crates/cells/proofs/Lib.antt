-- The laws of cells that are read: a token looked at and taken, and a line token by token.
pub mod Readings
pub mod FieldCuts
pub mod Progresses
pub mod HeldSymbols
pub mod Takes
pub mod Rows
