-- The shapes of an accepted program in its directory.
pub mod Shaped
pub mod Named
