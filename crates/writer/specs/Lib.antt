-- From an encoded program with names to scenario text.
pub mod Names
pub mod Write
pub mod Left
