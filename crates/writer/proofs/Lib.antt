-- Laws of the crate that belong to no one function.
pub mod NameChecks
pub mod AcceptedText
pub mod Answers
