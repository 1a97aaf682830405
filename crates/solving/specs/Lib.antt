-- What rule 3 asks for and adds.
pub mod Solving
pub mod SolvedSets
