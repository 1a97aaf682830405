-- What the rounds keep, and what they end in.
pub mod Rounds
