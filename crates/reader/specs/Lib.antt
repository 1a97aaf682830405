-- From scenario text to an encoded program with names.
pub mod Found
pub mod Read
