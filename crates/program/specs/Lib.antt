-- The encoded program: what it says, its faults, its shapes.
pub mod Limits
pub mod Lists
pub mod Reply
pub mod Program
pub mod Reading
pub mod Atoms
pub mod Part
pub mod Faults
pub mod Within
pub mod Shapes
pub mod Kinds
