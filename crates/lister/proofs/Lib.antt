-- Laws of the crate that belong to no one function.
pub mod ListedOnce
pub mod Samples
pub mod Tails
pub mod LineLaws
pub mod EachLine
pub mod Replies
