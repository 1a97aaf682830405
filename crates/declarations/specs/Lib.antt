-- Declaration lines: two fields behind the keyword, a name that is new in its kind, and its arity.
pub mod Declarations
pub mod Fields
pub mod Added
pub mod Held
