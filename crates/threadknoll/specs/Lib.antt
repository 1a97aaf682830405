-- The library for the engine.
pub mod Told
