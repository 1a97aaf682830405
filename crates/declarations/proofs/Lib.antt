-- The laws of declarations: a symbol that is new in its kind, put behind the others, and the line that declares it.
pub mod Symbols
pub mod DeclaredLines
