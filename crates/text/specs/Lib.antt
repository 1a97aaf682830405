-- Tokens, names, numbers and lines of scenario texts.
pub mod Room
pub mod Line
pub mod Token
pub mod Name
pub mod Decimal
pub mod Put
