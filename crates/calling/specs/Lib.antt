-- What rule 1 asks for and adds.
pub mod Calls
