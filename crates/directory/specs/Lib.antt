-- The directory of an accepted program: where everything stands.
pub mod Layout
pub mod Directory
pub mod Said
pub mod Numbers
pub mod From
pub mod Walked
pub mod Lists
