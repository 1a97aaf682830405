-- The laws that other crates cite are `pub`, each module named by its subject.
mod SingleBits
mod MaskLoops
mod SetsPassed
pub mod RowMasks
pub mod AtomVariables
pub mod PassedOn
pub mod Passing
pub mod Modes
mod Samples
