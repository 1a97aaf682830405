-- The laws of a whole text: its lines one after another, its lengths, and what is handed over.
pub mod TextLines
pub mod Hands
pub mod Texts
