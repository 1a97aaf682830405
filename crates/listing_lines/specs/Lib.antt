-- The line of a shape and of a row in a listing, and what the functions that write one are asked.
pub mod Letters
pub mod Lines
pub mod Set
pub mod Asked
