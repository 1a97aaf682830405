-- What a step of the analysis finds, keeps and adds.
pub mod Steps
pub mod Situation
pub mod Parts
pub mod Since
pub mod Heads
pub mod Unifiers
