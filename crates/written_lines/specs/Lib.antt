-- The tokens and lines that a program is written in.
pub mod Tokens
pub mod Lines
pub mod Walked
