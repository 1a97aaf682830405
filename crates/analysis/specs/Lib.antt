-- The table when the rounds are over.
pub mod Unpacked
pub mod Finished
