-- Laws of the crate that belong to no one function.
pub mod Cuts
pub mod Rooms
pub mod Tokens
pub mod Names
pub mod Decimals
pub mod Puts
