-- Masks, and marks passed through a unifier.
pub mod Pass
pub mod Domain
pub mod Passing
pub mod Modes
