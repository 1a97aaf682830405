-- What a clause gives with its head and what it ends in, and the marks that are kept for it between rounds.
pub mod AtHead
pub mod Ends
pub mod Keeping
